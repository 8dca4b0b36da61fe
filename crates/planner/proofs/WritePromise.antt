-- Demands 2 and 3 of what plan writing answers and leaves: the bits read back from the written bytes are the addresses. Assumes nothing.
use mathlib.Core.Path.{◌≡◌, refl, sym, ◌∙◌}
use mathlib.Core.List.{List, ◌++◌}
use Prim.Native.Nat.{ℕ, ◌-◌, ◌<◌}
use native.Mathlib.Omega.{arith}
use lib.ListN.{length, replicate}
use borrow.Author.Tests.{eq-eqb}
use Rattle.rack.specs.Wiring.{Wiring, link_count}
use Rattle.rack.specs.Columns.{column_count, address}
use Rattle.rack.specs.WiringFile.{file_wiring, file_refusal}
use Rattle.planner.specs.PlanBytes.{plan_bytes}
use Rattle.rack.specs.PlanFile.{plan_columns, plan_bit}
use Rattle.rack.specs.Limits.{lent_plan}
use Rattle.planner.specs.Planning.{left_in, writing_refusal, WriteSays, AskedToWrite, PlanFound}
use Rattle.planner.specs.Answer.{Answer}
use Rattle.planner.proofs.PlanBytes.{columns_in_front, bit_in_front}
use Rattle.planner.proofs.PlanAnswer.{accepted_columns, accepted_links}
use Rattle.planner.proofs.Found.{found}

module _ (bs : List ℕ) (r : Answer) (o out : List ℕ) (asked : AskedToWrite bs o) (says : WriteSays bs r o out) where
  abbrev w : Wiring
  w = file_wiring bs

  file_number : r.number ≡ (file_refusal bs).number
  unfolding writing_refusal
  file_number = says.answer.number ∙ rw (eq-eqb (length o) lent_plan asked.room) refl

  -- an accepted file
  module _ (z : r.number ≡ 0) where
    abbrev rest : List ℕ
    rest = replicate (length o - length (plan_bytes w)) 0

    output_now : out ≡ plan_bytes w ++ rest
    unfolding left_in
    output_now = says.output_left ∙ rw z refl

    links_fit : link_count w < 65536
    links_fit = omega (arith, accepted_links bs (sym file_number ∙ z))

    columns_fit : column_count w < 65536
    columns_fit = omega (arith, accepted_columns bs (sym file_number ∙ z))

    columns_written : plan_columns out ≡ column_count w
    columns_written = rw output_now (columns_in_front w links_fit columns_fit rest)

    bits_written : (c j : ℕ) → c < w.cards → j < column_count w → plan_bit out c j ≡ address w c j
    bits_written c j hc hj = rw output_now (bit_in_front w links_fit columns_fit rest c j hc hj)

  pub plan_found : PlanFound w r out
  plan_found = found bs asked.formed asked.whole r.number (plan_columns out) (plan_bit out) file_number columns_written bits_written
