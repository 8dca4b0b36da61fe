-- A card's address as a part of the plan: its place, and the refusals beside it. Assumes nothing.
use mathlib.Core.Path.{◌≡◌, refl, sym, ◌∙◌}
use mathlib.Core.Logic.{◌≢◌}
use mathlib.Core.List.{List, []}
use Prim.Native.Nat.{ℕ, ◌≤◌, ◌<◌}
use native.Mathlib.Omega.{arith}
use lib.ListN.{take, drop}
use borrow.Author.Tests.{eq-eqb, ne_eqb, le-leb, lt-leb}
use Rattle.rack.specs.PlanFile.{plan_cards, plan_columns, address_size, address_start}
use Rattle.rack.proofs.Logic.{by_eq, by_lt}
use Rattle.std.specs.Borrow.{Bor}
use Rattle.std.specs.Prelude.{Result, Ok, Err, IfOk}
use Rattle.rack.specs.Refused.{refusal_of, number_of}
use Rattle.rack.specs.declared.refused.Refused.{Refused}
use Rattle.rack.specs.declared.views.Plan.{Plan}
use Rattle.reader.specs.Reading.{AddressSays, PartIs, ReadSays, address_refusal, card_refusal, offset_unless, part_unless, sizes_of}
use Rattle.reader.proofs.Reading.{read_laid_out}
use Rattle.rack.proofs.RefusalNumbers.{refusal_numbered}

-- THE NUMBER: the refusal before it, 14 or none
module _ (x n c : ℕ) where
  pub refused_before : x ≢ 0 → card_refusal x n c ≡ x
  unfolding card_refusal
  refused_before d = rw (ne_eqb x 0 d) refl

  pub card_outside : x ≡ 0 → n ≤ c → card_refusal x n c ≡ 14
  unfolding card_refusal
  card_outside e h = rw (eq-eqb x 0 e, le-leb n c h) refl

  pub card_inside : x ≡ 0 → c < n → card_refusal x n c ≡ 0
  unfolding card_refusal
  card_inside e h = rw (eq-eqb x 0 e, lt-leb n c h) refl

  pub clear_card : card_refusal x n c ≡ 0 → (x ≡ 0) × (c < n)
  clear_card z =
      by_eq x 0
      (λ e. (e, by_lt c n (λ l. l) (λ l. absurd (omega (arith, z, card_outside e l)))))
      (λ d. absurd (d (sym (refused_before d) ∙ z)))

-- THE PART beside a number
module _ (ps : List ℕ) (c x : ℕ) where
  pub refused_part : x ≢ 0 → (offset_unless x ps c ≡ 0) × (part_unless x ps c ≡ [])
  unfolding offset_unless part_unless
  refused_part d = rw (ne_eqb x 0 d) (refl, refl)

  pub clear_part : x ≡ 0
      → (offset_unless x ps c ≡ address_start ps c) × (part_unless x ps c ≡ take (address_size (plan_columns ps)) (drop (address_start ps c) ps))
  unfolding offset_unless part_unless
  clear_part e = rw (eq-eqb x 0 e) (refl, refl)

-- AS READING answers, then 14
module _ (ps : List ℕ) (at : ℕ × ℕ) (c : ℕ) (p : Plan) (s : ReadSays ps (sizes_of (Ok p))) where
  read_then : card_refusal 0 p.cards c ≡ address_refusal ps c
  unfolding address_refusal
  read_then = let e = (read_laid_out ps _ s refl).cards in rw (← s.number, e) refl

  pub address_read : (r : Result (Bor (List ℕ)) Refused) → number_of r ≡ card_refusal 0 p.cards c → IfOk r (PartIs 0 ps at c)
      → IfOk r (AddressSays ps at c) × (number_of r ≡ address_refusal ps c)
  address_read (Ok part) e h = let z = e ∙ read_then in (rw (← z) h, z)
  address_read (Err f) e h = (tt, e ∙ read_then)

pub address_refused : (ps : List ℕ) (c : ℕ) (e : Refused) → ReadSays ps (sizes_of (Err e)) → (refusal_of e).number ≡ address_refusal ps c
unfolding address_refusal
address_refused ps c e s =
    let x = (refusal_of e).number in
    rw (← s.number) (sym (refused_before x (plan_cards ps) c (refusal_numbered e)))
