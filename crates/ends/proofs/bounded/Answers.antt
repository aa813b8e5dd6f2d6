-- `bounded` finds the faults of each section, and lets the first refusal go by them.
use Rattle.std.proofs.Common.{arith}
use Rattle.ends.proofs.Arrays.{owners_few, few_jobs, few_steps, few_calls, few_accepts, lent_tested}
use Rattle.ends.proofs.bounded.Goals as goal

pub find_faults-s-requires : goal.find_faults-s-requires
find_faults-s-requires c = let l = c.requires.1 in (omega (arith, few_steps l), owners_few l)

pub find_faults-c-requires : goal.find_faults-c-requires
find_faults-c-requires c = let l = c.requires.1 in (omega (arith, few_calls l), owners_few l)

pub find_faults-a-requires : goal.find_faults-a-requires
find_faults-a-requires c = let l = c.requires.1 in (omega (arith, few_accepts l), owners_few l)

pub first_of-requires : goal.first_of-requires
first_of-requires c = few_jobs c.requires.1

pub returns : goal.returns
returns c p l = c.first_of.ensures p (lent_tested l _ _ _ c.find_faults-s.ensures c.find_faults-c.ensures c.find_faults-a.ensures)
