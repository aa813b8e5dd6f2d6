-- The kinds and the sets of the items passed stand in their arrays.
use Rattle.std.proofs.Common.{◌≡◌}
use Rattle.std.specs.Prelude.{take}
use Rattle.rows.specs.Rows.{padded}
use Rattle.readback.specs.Tables.{kinds_of, sets_of}
use Rattle.readback.proofs.list_items.Given as goal

abbrev pub invariant-loop-i : goal.invariant-loop-i
invariant-loop-i l =
    (l.kinds ≡ padded 64 (kinds_of (take l.i l.fn.items.items))) × (l.sets ≡ padded 64 (sets_of (take l.i l.fn.items.items)))
