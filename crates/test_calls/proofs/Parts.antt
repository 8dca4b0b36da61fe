-- A part of lent bytes that is put into a lent slice: with a refusal it is empty, at the first byte. Assumes nothing.
use mathlib.Core.Path.{◌≡◌, refl, ap, ◌∙◌}
use mathlib.Core.List.{List}
use Prim.Native.Nat.{ℕ, ◌+◌}
use native.Mathlib.Omega.{arith}
use borrow.Author.Tests.{ne_eqb}
use Rattle.std.specs.Prelude.{Result, Ok, Err, IfOk}
use Rattle.std.specs.Borrow.{Bor}
use Rattle.rack.specs.Refused.{number_of}
use Rattle.rack.specs.declared.refused.Refused.{Refused}
use Rattle.rack.proofs.RefusalNumbers.{refusal_numbered}
use Rattle.reader.specs.Reading.{PartIs, offset_unless, part_unless}
use Rattle.turns.specs.Turns.{part_of}

pub part_put : (x : ℕ) (ps : List ℕ) (at : ℕ × ℕ) (card : ℕ) (r : Result (Bor (List ℕ)) Refused) → IfOk r (PartIs x ps at card) → number_of r ≡ x
    → PartIs x ps at card (part_of at r)
unfolding offset_unless part_unless
part_put x ps at card (Ok part) is e = is
part_put x ps at card (Err refused) is e =
    let first : at.1 ≡ 0 + at.1 = omega arith in
    rw (ne_eqb x 0 (λ z. refusal_numbered refused (e ∙ z))) (record { place = ap (λ (k : ℕ). (at.0, k)) first; bytes = refl })
