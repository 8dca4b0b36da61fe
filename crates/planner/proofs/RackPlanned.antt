-- The stages of planning, joined: 2 to 11, or the plan. Assumes nothing.
use mathlib.Core.Path.{◌≡◌, sym, ap, ◌∙◌}
use mathlib.Core.Bool.{true}
use mathlib.Core.Logic.{◌≢◌}
use mathlib.Core.List.{List}
use Prim.Native.Nat.{ℕ}
use lib.ListN.{length}
use native.Mathlib.Omega.{arith}
use Rattle.std.specs.Prelude.{Ok, Err, Option, Some, None, MatchOption}
use Rattle.std.specs.Option.{ok_or}
use Rattle.rack.specs.Formed.{SizesAre}
use Rattle.rack.proofs.WiringFile.{sized_clear}
use Rattle.rack.specs.Wiring.{Wiring}
use Rattle.rack.specs.Hops.{connected}
use Rattle.rack.specs.Columns.{column_count, address, Embedding}
use Rattle.rack.specs.Refused.{refusal_of}
use Rattle.rack.specs.declared.refused.Refused.{Refused}
use Rattle.rack.specs.declared.refused.Refused.TheVariants.{NoAddresses}
use Rattle.rack.specs.Refusals.{Refusal, refusal, links_refusal, reach_refusal, parity_refusal, rack_refusal}
use Rattle.rack.specs.WiringFile.{file_wiring, sizes_fault, file_refusal}
use Rattle.rack.specs.Limits.{lent_words, lent_hops}
use Rattle.survey.specs.Tables.{HopsIn}
use Rattle.rack.proofs.RefusalNumbers.{refusal_numbered}
use Rattle.planner.specs.Answer.{Answer, answer_of}
use Rattle.planner.specs.Stages.{Addressed, RackPlanned, FilePlanned}
use Rattle.planner.proofs.Answers.{refusal_of_sizes, refusal_of_links, refusal_of_rack, refusal_of_reach, refusal_of_parity}
use Rattle.planner.proofs.Answers.{refusal_of_none, refusal_of_embedding, planned_refused, planned_found}

-- what is said has a number
said_number : (f : Refusal) (e : Refused) → f ≡ refusal_of e → f.number ≢ 0
said_number f e is z = refusal_numbered e (sym (ap (λ (g : Refusal). g.number) is) ∙ z)

-- A RACK: 9, 10, 11, or its plan
module _ (w : Wiring) (ws h : List ℕ) where
  pub unreached_planned : (e : Refused) → reach_refusal w ≡ refusal_of e → length ws ≡ lent_words → length h ≡ lent_hops → RackPlanned w (answer_of (Err e)) ws h
  unreached_planned e is = planned_refused (rack_refusal w) w ws h e (refusal_of_reach w (said_number (reach_refusal w) e is) ∙ is)

  module _ (c : connected w ≡ true) where
    pub odd_planned : (e : Refused) → parity_refusal w ≡ refusal_of e → length ws ≡ lent_words → length h ≡ lent_hops → RackPlanned w (answer_of (Err e)) ws h
    odd_planned e is = planned_refused (rack_refusal w) w ws h e (refusal_of_parity w c (said_number (parity_refusal w) e is) ∙ is)

    pub none_planned : (parity_refusal w).number ≡ 0 → (Embedding w (column_count w) (address w) → ⊥) → length ws ≡ lent_words → length h ≡ lent_hops
        → RackPlanned w (answer_of (Err NoAddresses)) ws h
    none_planned z none = planned_refused (rack_refusal w) w ws h NoAddresses (refusal_of_none w c z none)

    pub found_planned : (k : ℕ) → (parity_refusal w).number ≡ 0 → Addressed w ws k → HopsIn w h → RackPlanned w (answer_of (Ok k)) ws h
    found_planned k z a = planned_found (rack_refusal w) w ws h k (refusal_of_embedding w c z a.embedding) a

    pub addressed_planned : (o : Option ℕ) → (parity_refusal w).number ≡ 0 → MatchOption o (Embedding w (column_count w) (address w) → ⊥) (Addressed w ws)
        → HopsIn w h → length ws ≡ lent_words → RackPlanned w (answer_of (ok_or o NoAddresses)) ws h
    addressed_planned (Some k) z a t lw = found_planned k z a t
    addressed_planned None z a t lw = none_planned z a lw t.long

-- A FILE with sizes passed 2 to 5
pub sizes_clear : (bs : List ℕ) (n m : ℕ) → SizesAre bs n m → sizes_fault bs ≡ 0
sizes_clear bs n m s =
    sized_clear bs (record { head = omega (arith, s.long); some = omega (arith, s.cards, s.some); cards = omega (arith, s.cards, s.few); links = omega (arith, s.links, s.few_links); long = omega (arith, s.links, s.long) })

pub sizes_refusal : (bs : List ℕ) (e : Refused) → refusal (sizes_fault bs) 0 ≡ refusal_of e → file_refusal bs ≡ refusal_of e
sizes_refusal bs e is = refusal_of_sizes bs (said_number (refusal (sizes_fault bs) 0) e is) ∙ is

-- A FILE: 2 to 8, or as its rack
module _ (bs ws h : List ℕ) where
  pub sizes_planned : (e : Refused) → refusal (sizes_fault bs) 0 ≡ refusal_of e → length ws ≡ lent_words → length h ≡ lent_hops → FilePlanned bs (answer_of (Err e)) ws h
  sizes_planned e is = planned_refused (file_refusal bs) (file_wiring bs) ws h e (sizes_refusal bs e is)

  pub links_planned : (e : Refused) → sizes_fault bs ≡ 0 → links_refusal (file_wiring bs) ≡ refusal_of e → length ws ≡ lent_words → length h ≡ lent_hops
      → FilePlanned bs (answer_of (Err e)) ws h
  links_planned e z is =
      planned_refused (file_refusal bs) (file_wiring bs) ws h e (refusal_of_links bs z (said_number (links_refusal (file_wiring bs)) e is) ∙ is)

  pub rack_file_planned : (r : Answer) → sizes_fault bs ≡ 0 → (links_refusal (file_wiring bs)).number ≡ 0 → RackPlanned (file_wiring bs) r ws h → FilePlanned bs r ws h
  rack_file_planned r z l p = rw (refusal_of_rack bs z l) p
