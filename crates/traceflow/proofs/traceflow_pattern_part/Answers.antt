-- `traceflow_pattern_part` gives the place of the part.
use Rattle.std.proofs.Common.{◌∙◌, ℕ, List, length, ap}
use Rattle.traceflow.specs.Exported.{at_end}
use Rattle.traceflow.proofs.Place.{part_within, place_at_end}
use Rattle.traceflow.proofs.traceflow_pattern_part.Goals as goal

pub at_end-requires : goal.at_end-requires
at_end-requires c = rw c.pattern_part-part.ensures.bytes (part_within c.args.plan.now)

pub returns : goal.returns
returns c =
    let b = c.args.plan.now in
    c.at_end.ensures ∙ ap (λ (l : List ℕ). at_end (length b) (length l)) c.pattern_part-part.ensures.bytes ∙ place_at_end b
