-- What planning and plan writing answer, in numbers: a refusal's number, 0 for none, the link or card that it carries, and with 0 a value.
-- Assumes nothing: these are definitions.
use Rattle.std.specs.Prelude.{ℕ, Result, Ok, Err}
use Rattle.rack.specs.Refused.{refusal_of}
use Rattle.rack.specs.declared.refused.Refused.{Refused}

pub record Answer : Type 0 where
  pub number : ℕ
  pub at : ℕ
  pub value : ℕ

abbrev pub answer_of : Result ℕ Refused → Answer
answer_of (Ok k) = record { number = 0; at = 0; value = k }
answer_of (Err e) = record { number = (refusal_of e).number; at = (refusal_of e).at; value = 0 }
