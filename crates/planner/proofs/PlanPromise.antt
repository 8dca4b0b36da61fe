-- Demand 3 of what planning answers and leaves: "no addresses" exactly if there are none, else the words hold the embedding. Assumes nothing.
use mathlib.Core.Path.{◌≡◌, refl, sym, ◌∙◌}
use mathlib.Core.List.{List, ◌++◌}
use Prim.Native.Nat.{ℕ, ◌-◌, ◌<◌}
use native.Mathlib.Omega.{arith}
use lib.ListN.{length, replicate}
use borrow.Author.Tests.{eq-eqb}
use Rattle.rack.specs.Wiring.{Wiring}
use Rattle.rack.specs.Hops.{hops}
use Rattle.rack.specs.Columns.{column_count, address}
use Rattle.rack.specs.WiringFile.{file_wiring, file_refusal}
use Rattle.survey.specs.Tables.{cell}
use Rattle.rack.specs.Words.{word_bit}
use Rattle.rack.specs.Limits.{lent_words, lent_hops}
use Rattle.planner.specs.Planning.{all_words, all_hops, left_in, planning_refusal, PlanSays, Asked, AddressesFound}
use Rattle.planner.specs.Answer.{Answer}
use Rattle.planner.proofs.Contents.{word_bit_address, hops_at}
use Rattle.planner.proofs.PlanAnswer.{accepted_few, accepted_columns}
use Rattle.planner.proofs.Found.{found}

module _ (bs : List ℕ) (r : Answer) (ws₀ ws h₀ h : List ℕ) (asked : Asked bs ws₀ h₀) (says : PlanSays bs r ws₀ ws h₀ h) where
  abbrev w : Wiring
  w = file_wiring bs

  file_number : r.number ≡ (file_refusal bs).number
  unfolding planning_refusal
  file_number = says.answer.number ∙ rw (eq-eqb (length ws₀) lent_words asked.room, eq-eqb (length h₀) lent_hops asked.hop_room) refl

  -- an accepted file
  module _ (z : r.number ≡ 0) where
    columns_answered : r.value ≡ column_count w
    columns_answered = says.answer.value ∙ rw (eq-eqb (planning_refusal bs (length ws₀) (length h₀)).number 0 (sym says.answer.number ∙ z)) refl

    accepted : (file_refusal bs).number ≡ 0
    accepted = sym file_number ∙ z

    words_now : ws ≡ all_words w ++ replicate (length ws₀ - length (all_words w)) 0
    unfolding left_in
    words_now = says.words_left ∙ rw z refl

    hops_now : h ≡ all_hops w ++ replicate (length h₀ - length (all_hops w)) 0
    unfolding left_in
    hops_now = says.hops_left ∙ rw z refl

    word_bits : (c j : ℕ) → c < w.cards → j < column_count w → word_bit ws c j ≡ address w c j
    word_bits c j hc hj = rw words_now (word_bit_address w (replicate (length ws₀ - length (all_words w)) 0) c j hc (omega (arith, accepted_columns bs accepted)))

    hops_measured : (a b : ℕ) → a < w.cards → b < w.cards → cell h a b ≡ hops w a b
    hops_measured a b ha hb = rw hops_now (hops_at w (replicate (length h₀ - length (all_hops w)) 0) a b (accepted_few bs accepted) ha hb)

  pub addresses_found : AddressesFound w r ws h
  addresses_found =
      record {
        addresses = found bs asked.formed asked.whole r.number r.value (word_bit ws) file_number columns_answered word_bits;
        measured = hops_measured;
      }
