-- Document 01, "When a plan is turned down": the refusals 1 to 9, a test each, and their order. Document 02, order 4, and
-- order 5, with refusal 21.
use Rattle.std.specs.Prelude.{ℕ, ◌-◌, ◌*◌, Bool, ◌&&◌, ◌||◌, not, List, [], ◌∷◌, ◌++◌, map, ltb, leb, eqb, length}
use Rattle.fields.specs.Bits.{field_at}
use Rattle.sections.specs.declared.Head.{Head}
use Rattle.sections.specs.Plan.{Job, Arc, Plan, stands}
use Rattle.sections.specs.Layout.{head_of, end_at, pattern_at, plan_of}
use Rattle.sections.specs.Tables.{sizes}
use Rattle.plan.specs.Checks.{Check, refuse, any, any_numbered}
use Rattle.plan.specs.Nodes.{job_of, exit_of, must_end, is_node, total}

-- 1. "The plan has fewer than 11 bytes."
abbrev pub too_short : List ℕ → Bool
too_short b = ltb (length b) 11

-- 2. "A count of the head is outside its range." Order 4: "Jobs 0 becomes legal, and nodes 0 with it; 2 is amended so"
abbrev pub outside : ℕ → ℕ → ℕ → Bool
outside low high n = ltb n low || ltb high n

unfoldable pub counts_outside : Head → Bool
counts_outside h =
    outside 0 16 h.jobs
    || (outside 0 256 h.nodes
    || (outside 0 256 h.steps
    || (outside 0 128 h.calls || (outside 0 128 h.accepts || (outside 0 64 h.channels || outside 1 64 h.items)))))

abbrev pub counts_wrong : List ℕ → Bool
counts_wrong b = counts_outside (head_of b)

-- 3. "The plan is shorter than its sections before the pattern."
abbrev pub cut_short : List ℕ → Bool
cut_short b = ltb (length b) (pattern_at (head_of b))

-- 4. "A filling bit before the pattern is one."
abbrev pub filled : List ℕ → Bool
filled b = not (eqb (field_at b (end_at (head_of b)) (8 * pattern_at (head_of b) - end_at (head_of b))) 0)

-- 5. "A job has size 0, or the sizes do not sum to the nodes." Order 4: "5 answers jobs 0 with nodes or nodes 0 with jobs", by these very
-- words (`nodes_without_jobs`, `jobs_without_nodes`)
abbrev pub sizes_wrong : ℕ → List Job → Bool
sizes_wrong nodes jobs = any (λ (b : Job). eqb b.size 0) jobs || not (eqb (total (sizes jobs)) nodes)

abbrev pub wrong_sizes : Plan → Bool
wrong_sizes p = sizes_wrong p.nodes p.jobs

-- 6. "An entry or exit is not a node of its job." Order 5: a standing job's "exit field repeats its entry", and "6 also answers an exit field
-- that differs"
abbrev pub differs : Job → Bool
differs b = stands b.standing && not (eqb b.exit b.entry)

abbrev pub stray : ℕ → (ℕ → ℕ) → ℕ → Job → Bool
stray nodes job j b = not (is_node nodes job j b.entry && is_node nodes job j b.exit) || differs b

abbrev pub stray_ends : Plan → Bool
stray_ends p = any_numbered (stray p.nodes (job_of p)) p.jobs

-- 21. Order 5: "when there are jobs and all of them stand"
abbrev pub all_stand : List Job → Bool
all_stand jobs = ltb 0 (length jobs) && not (any (λ (b : Job). not (stands b.standing)) jobs)

abbrev pub none_ends : Plan → Bool
none_ends p = all_stand p.jobs

-- "7 to 9 each over all local steps, calls and accepts"; 9 speaks of calls and accepts alone
abbrev pub links : Plan → List Arc
links p = p.calls ++ p.accepts

abbrev pub arcs : Plan → List Arc
arcs p = p.steps ++ links p

-- 7. "A step's two ends are not nodes of one and the same job." So too in a plan without jobs (`arcs_without_jobs`)
abbrev pub apart : ℕ → (ℕ → ℕ) → Arc → Bool
apart nodes job a = not (ltb a.from nodes && (ltb a.to nodes && eqb (job a.from) (job a.to)))

abbrev pub split_ends : Plan → Bool
split_ends p = any (apart p.nodes (job_of p)) (arcs p)

-- 8. "A step leaves the exit of its job." Order 5: "8 passes standing jobs over"
abbrev pub leaving : (ℕ → ℕ) → (exit : ℕ → ℕ) → (ends : ℕ → Bool) → Arc → Bool
leaving job exit ends a = ends (job a.from) && eqb a.from (exit (job a.from))

abbrev pub exit_left : Plan → Bool
exit_left p = any (leaving (job_of p) (exit_of p) (must_end p)) (arcs p)

-- 9. "A call or accept names a channel not below the number of channels."
abbrev pub unknown : ℕ → Arc → Bool
unknown channels a = leb channels a.label

abbrev pub no_channel : Plan → Bool
no_channel p = any (unknown (length p.channels)) (links p)

-- ---- the order

-- the checks of the bytes
abbrev pub framing : List (Check (List ℕ))
framing = refuse 1 too_short ∷ refuse 2 counts_wrong ∷ refuse 3 cut_short ∷ refuse 4 filled ∷ []

-- the checks of what the plan says, and those of them that stand behind the sizes. Order 5: 21 "right after 6"
abbrev pub ends : List (Check Plan)
ends = refuse 6 stray_ends ∷ refuse 21 none_ends ∷ refuse 7 split_ends ∷ refuse 8 exit_left ∷ refuse 9 no_channel ∷ []

abbrev pub shape : List (Check Plan)
shape = refuse 5 wrong_sizes ∷ ends

-- "Checked in this order": all checks before the pattern
abbrev pub order : List (Check (List ℕ))
order = framing ++ map (λ (c : Check Plan) (b : List ℕ). c (plan_of b)) shape
