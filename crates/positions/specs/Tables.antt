-- The table of the positions of a pattern. Document 01, "Pattern and automaton".
use Rattle.std.specs.Prelude.{suc}
use Rattle.rows.specs.Rows.{row}
use Rattle.expressions.specs.Expression.{Expression}
use Rattle.expressions.specs.Positions.{size, after, holding, final}
use Rattle.positions.specs.declared.Positions.{Positions}

abbrev pub position_table : Expression → Positions
position_table r = record { count = suc (size r); after = row 33 (after r); holding = row 33 (holding 1 r); last = final r }
