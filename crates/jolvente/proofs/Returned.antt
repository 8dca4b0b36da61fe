-- A refusal is at most 11 and carries at most 2,048, so what the C writer returns fits 32 bits. Assumes nothing.
use mathlib.Core.Path.{◌≡◌, refl, ◌∙◌}
use mathlib.Core.Logic.{◌≢◌}
use mathlib.Core.List.{List}
use Prim.Native.Nat.{ℕ, ◌+◌, ◌*◌, ◌<◌}
use native.Mathlib.Omega.{arith}
use borrow.Author.Tests.{eq-eqb, ne_eqb}
use Rattle.rack.specs.WiringFile.{file_refusal}
use Rattle.rack.proofs.Logic.{by_eq}
use Rattle.rack.proofs.Numbers.{file_numbers}
use Rattle.rack.specs.Limits.{lent_plan}
use Rattle.planner.specs.Planning.{writing_refusal, AnswerIs}
use Rattle.planner.specs.Answer.{Answer}

pub returned_fits : (bs : List ℕ) (room v : ℕ) (r : Answer) → AnswerIs (writing_refusal bs room) v r → r.number + 256 * r.at < 4294967296
unfolding writing_refusal
returned_fits bs room v r a =
    by_eq room lent_plan
    (λ (e : room ≡ lent_plan). let f = file_numbers bs in
    let t = eq-eqb room lent_plan e in
    let number : r.number ≡ (file_refusal bs).number = a.number ∙ rw t refl in
    let at : r.at ≡ (file_refusal bs).at = a.at ∙ rw t refl in
    omega (arith, f.1, f.2))
    (λ (d : room ≢ lent_plan). let t = ne_eqb room lent_plan d in
    let number : r.number ≡ 1 = a.number ∙ rw t refl in
    let at : r.at ≡ 0 = a.at ∙ rw t refl in
    omega arith)
