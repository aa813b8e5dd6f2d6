-- What program `judge` prints of a plan, or of a plan and a text. Document 01, "The pattern part and the program".
use Rattle.std.specs.Prelude.{◌≡◌, List, ℕ, ◌≤◌, replicate}
use Rattle.arrayvec.specs.ArrayVec.{ArrayVec, array_vec_len}
use Rattle.verdict.specs.Answer.{Answer}
use Rattle.promises.specs.Judged.{Promise}
use Rattle.line.specs.Line.{line_of}

-- "prints one line": that of an answer that meets the promise P, with a row of 256 places
pub record Reports (P : Promise) (line : ArrayVec ℕ) : Type 0 where
  pub answer : Answer
  pub row : List ℕ
  pub judged : P (replicate 256 0) answer row
  pub printed : line.items ≡ line_of answer
  -- the line is within its array
  pub fits : array_vec_len line ≤ 128
