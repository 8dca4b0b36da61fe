-- What planning says: its answer and its buffers, from those of its last stage. Assumes nothing.
use mathlib.Core.Path.{◌≡◌, refl, sym, ap, ◌∙◌}
use mathlib.Core.Bool.{false, ◌&&◌, cond}
use mathlib.Core.Logic.{◌≢◌}
use mathlib.Core.List.{List, ◌++◌}
use Prim.Native.Nat.{ℕ, ◌-◌, ◌≤◌}
use native.Mathlib.Omega.{arith}
use lib.Dec.{eqb}
use lib.ListN.{length, replicate}
use borrow.Author.Tests.{eq-eqb, ne_eqb}
use Rattle.std.specs.Prelude.{Err}
use Rattle.rack.specs.declared.refused.Refused.TheVariants.{Lent}
use Rattle.rack.specs.Wiring.{link_count}
use Rattle.rack.specs.Columns.{column_count}
use Rattle.rack.specs.WiringFile.{file_wiring, file_refusal}
use Rattle.rack.proofs.Logic.{by_eq}
use Rattle.rack.proofs.Accepted.{wiring_accepted, file_clear}
use Rattle.rack.proofs.WiringFile.{wiring_at_cards, wiring_at_count}
use Rattle.rack.proofs.Numbers.{file_numbers}
use Rattle.planner.specs.Stages.{FilePlanned}
use Rattle.rack.specs.Limits.{lent_words, lent_hops, most_cards, most_columns, most_links}
use Rattle.planner.specs.Planning.{all_words, all_hops, left_in, AnswerIs, planning_refusal, PlanSays}
use Rattle.planner.specs.Answer.{Answer, answer_of}
use Rattle.planner.proofs.Contents.{words_list, hops_list}

-- NO FILE is refused with 1
pub file_not_one : (bs : List ℕ) → (file_refusal bs).number ≢ 1
file_not_one bs = (file_numbers bs).0

-- BUFFERS
pub left_untouched : (new old : List ℕ) → left_in 1 new old ≡ old
unfolding left_in
left_untouched new old = refl

pub left_filled : (n : ℕ) (new old now : List ℕ) → n ≡ 0 → length now ≡ length old → now ≡ new ++ replicate (length now - length new) 0 → now ≡ left_in n new old
unfolding left_in
left_filled n new old now z l e = rw (z, ← l) e

pub left_zero : (n : ℕ) (new old : List ℕ) → n ≢ 0 → n ≢ 1 → left_in n new old ≡ replicate (length old) 0
unfolding left_in
left_zero n new old z o = rw (ne_eqb n 1 o, ne_eqb n 0 z) refl

-- an answer's value from a stage's
pub answer_value : (n v k : ℕ) → (n ≡ 0 → v ≡ k) → (n ≢ 0 → v ≡ 0) → v ≡ cond (eqb n 0) k 0
answer_value n v k h z = by_eq n 0 (λ e. h e ∙ sym (rw (eq-eqb n 0 e) refl)) (λ e. z e ∙ sym (rw (ne_eqb n 0 e) refl))

pub accepted_few : (bs : List ℕ) → (file_refusal bs).number ≡ 0 → (file_wiring bs).cards ≤ most_cards
accepted_few bs h = omega (arith, (file_clear bs h).0.cards, wiring_at_cards 4 bs)

pub accepted_columns : (bs : List ℕ) → (file_refusal bs).number ≡ 0 → column_count (file_wiring bs) ≤ most_columns
accepted_columns bs h =
    let c = file_clear bs h in
    omega (arith, (wiring_accepted (file_wiring bs) (omega (arith, c.0.some, wiring_at_cards 4 bs)) c.1).few, accepted_few bs h)

pub accepted_links : (bs : List ℕ) → (file_refusal bs).number ≡ 0 → link_count (file_wiring bs) ≤ most_links
accepted_links bs h = omega (arith, (file_clear bs h).0.links, wiring_at_count 4 bs)

-- PLANNING in buffers of another length
pub plan_says_one : (bs ws h : List ℕ) → (eqb (length ws) lent_words && eqb (length h) lent_hops) ≡ false → PlanSays bs (answer_of (Err Lent)) ws ws h h
unfolding planning_refusal
plan_says_one bs ws h t =
    record {
      answer = record { number = rw t refl; at = rw t refl; value = rw t refl };
      words_left = sym (left_untouched _ ws);
      hops_left = sym (left_untouched _ h);
    }

-- PLANNING in buffers of their lengths
module _ (bs : List ℕ) (r : Answer) (ws₀ ws₁ h₀ h₁ : List ℕ) (lw : length ws₀ ≡ lent_words) (lh : length h₀ ≡ lent_hops) (p : FilePlanned bs r ws₁ h₁) where
  plan_answer : AnswerIs (planning_refusal bs (length ws₀) (length h₀)) (column_count (file_wiring bs)) r
  unfolding planning_refusal
  plan_answer =
      rw (eq-eqb (length ws₀) lent_words lw, eq-eqb (length h₀) lent_hops lh)
      (record {
        number = p.number;
        at = p.at;
        value = answer_value r.number r.value (column_count (file_wiring bs)) p.value p.no_value ∙ ap
            (λ (n : ℕ). cond (eqb n 0) (column_count (file_wiring bs)) 0) p.number;
      })

  pub plan_says_found : r.number ≡ 0 → PlanSays bs r ws₀ ws₁ h₀ h₁
  plan_says_found z =
      let few = accepted_few bs (sym p.number ∙ z) in
      record {
        answer = plan_answer;
        words_left = left_filled r.number (all_words (file_wiring bs)) ws₀ ws₁ z (p.long_words ∙ sym lw) (words_list (file_wiring bs) ws₁ few (p.words z));
        hops_left = left_filled r.number (all_hops (file_wiring bs)) h₀ h₁ z (p.long_hops ∙ sym lh) (hops_list (file_wiring bs) h₁ few (p.hops z));
      }

  pub plan_says_refused : (ws h : List ℕ) → r.number ≢ 0 → ws ≡ replicate (length ws₁) 0 → h ≡ replicate (length h₁) 0 → PlanSays bs r ws₀ ws h₀ h
  plan_says_refused ws h n ew eh =
      let o : r.number ≢ 1 = λ e. file_not_one bs (sym p.number ∙ e) in
      record {
        answer = plan_answer;
        words_left = ew ∙ ap (λ (k : ℕ). replicate k 0) (p.long_words ∙ sym lw) ∙ sym (left_zero r.number (all_words (file_wiring bs)) ws₀ n o);
        hops_left = eh ∙ ap (λ (k : ℕ). replicate k 0) (p.long_hops ∙ sym lh) ∙ sym (left_zero r.number (all_hops (file_wiring bs)) h₀ n o);
      }
