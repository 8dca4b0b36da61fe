-- Every row of the table of cases holds, by one computed test. Assumes nothing.
use mathlib.Core.Path.{◌≡◌, refl}
use mathlib.Core.Bool.{Bool, true, not}
use mathlib.Core.List.{List, [], ◌∷◌, ◌++◌, map, cons≢nil}
use Prim.Native.String.{String}
use Rattle.rack.specs.Lists.{all, filter, sum}
use Rattle.rack.specs.Bits.{number_bit, bits_value}
use Rattle.rack.specs.Wiring.{joins, linked, neighbours, touches, other_end}
use Rattle.rack.specs.Hops.{has_path, hops, unreached, connected}
use Rattle.rack.specs.Columns.{nearer_first, side, column, same_column, add_column, add_columns, columns, column_count, address, hamming, embeds}
use Rattle.rack.specs.Refusals.{or_else, lowest_fault, link_fault, links_refusal, reach_refusal, parity_refusal, embedding_refusal, rack_refusal, wiring_refusal}
use Rattle.rack.specs.Buffers.{number_at, two_bytes}
use Rattle.rack.specs.WiringFile.{wiring_at, sizes_fault, form_refusal, file_refusal, end_bytes, file_bytes}
use Rattle.rack.specs.PlanFile.{bit_from, plan_bit, plan_hamming, address_size}
use Rattle.counting.specs.Ones.{ones_in}
use Rattle.rack.proofs.Logic.{by_bool}
use Rattle.rack.proofs.Lists.{In, all_in}
use Rattle.planner.specs.PlanBytes.{address_bytes, plan_bytes}
use Rattle.reader.specs.Plan.{layout_holds, content_holds, plan_refusal}
use Rattle.reader.specs.Reading.{layout_refusal, card_refusal}
use Rattle.forwarder.specs.Forwarding.{leads_nearer, step, walk_from, walk}
use Rattle.forwarder.specs.Calls.{step_refusal, walk_hops, takes, walk_refusal}
use Rattle.crossing.specs.Differing.{lowest_differing, plan_differing, column_number}
use Rattle.crossing.specs.Crossing.{step_column, walk_column}
use Rattle.turns.specs.Turns.{frame_goal, frame_caller, first_goes, next_caller, choice_refusal, turns_after}
use Rattle.traffic.specs.Traffic.{caller_refusal, tally_of, with_tally, raised}
use Rattle.callers.specs.Walking.{caller_walk_refusal, lent_walk_refusal}
use Rattle.conference.specs.Conference.{between, median, conference, three_refusal, conference_refusal}
use Rattle.pendant.specs.Pendant.{with_card, without_card, last_hangs}
use Rattle.totals.specs.Totals.{hops_to, total_hops, column_products}
use Rattle.plan_totals.specs.Summed.{total_refusal}
use Rattle.plan_changer.specs.Changing.{add_refusal, off_refusal}
use Rattle.last_card.specs.Calls.{add_card_refusal, take_off_refusal}
use Rattle.carried.specs.Carried.{carries, carried_bytes}
use Rattle.text.specs.Decimals.{digits, decimal}
use Rattle.listing_text.specs.Listing.{cards_word, links_word, columns_word, card_word, refused_word, at_link, at_card, space, dash, line_end}
use Rattle.listing_text.specs.Listing.{number_line, address_text, card_line, size_lines, rack_lines, rack_text, names_link, place_text, refused_text, listing}
use Rattle.promises.specs.Claims.{hex_digit, hex_bytes, hex, Claim, ends_so, counts_of, same_traffic, turns_of, chooses, claim_holds}
use Rattle.promises.specs.Claims.{Case, case, rack, file_of, plan_of, case_holds, failing}
use Rattle.promises.specs.Cases.{ring_of_four, ring_of_six, ring_plan, star_of_nine_plan, star_of_ten_plan, doubled_plan}
use Rattle.promises.specs.Cases.{required_cases, size_cases, link_cases, twin_cases, rack_cases, plan_cases, call_cases, crossing_cases}
use Rattle.promises.specs.Cases.{caller_cases, turn_cases, conference_cases, last_card_cases, opened_cases, cases}

-- A CLAIM THAT FAILS has no proof, and the checker's message shows it, behind the name of its row. Both types are pairs: to check a
-- pair the checker has to compute the list, and then says what it found in it.
data Fails (name : String) (claim : Claim) : Type 0 where

abbrev None : (failing : List (String × Claim)) → Type 0
None [] = Unit {0} × Unit {0}
None ((s, c) ∷ rest) = Fails s c × Unit {0}

-- THE TEST
none_fails : None (failing cases)
unfolding cases required_cases size_cases link_cases twin_cases rack_cases plan_cases call_cases crossing_cases caller_cases turn_cases conference_cases
    last_card_cases opened_cases ring_of_four ring_of_six ring_plan star_of_nine_plan star_of_ten_plan doubled_plan rack file_of plan_of hex hex_bytes hex_digit ends_so
    counts_of same_traffic turns_of chooses claim_holds failing
    number_bit bits_value joins linked neighbours touches other_end has_path hops unreached connected
    nearer_first side column same_column add_column add_columns columns column_count address hamming embeds
    or_else lowest_fault link_fault links_refusal reach_refusal parity_refusal embedding_refusal rack_refusal wiring_refusal
    number_at two_bytes wiring_at sizes_fault form_refusal file_refusal end_bytes file_bytes address_size address_bytes
    plan_bytes
    layout_holds content_holds plan_refusal layout_refusal bit_from plan_bit plan_hamming ones_in leads_nearer step walk_from walk
    walk_hops step_refusal takes walk_refusal lowest_differing plan_differing column_number step_column walk_column
    frame_goal frame_caller first_goes next_caller choice_refusal turns_after caller_refusal tally_of with_tally raised caller_walk_refusal
    lent_walk_refusal
    between median conference three_refusal conference_refusal with_card without_card last_hangs add_refusal off_refusal add_card_refusal
    take_off_refusal sum hops_to total_hops column_products total_refusal card_refusal carries carried_bytes digits decimal
    cards_word links_word columns_word card_word refused_word at_link at_card space dash line_end number_line address_text
    card_line size_lines rack_lines rack_text names_link place_text refused_text listing
none_fails = (tt, tt)

-- EACH ROW
filter_none : {A B : Type 0} (p : A → Bool) (f : A → B) (xs : List A) (ys : List B) → map f (filter (λ x. not (p x)) xs) ++ ys ≡ []
    → (all p xs ≡ true) × (ys ≡ [])
filter_none p f [] ys e = (refl, e)
filter_none p f (x ∷ xs) ys e = by_bool (p x) (λ t. holds t (filter_none p f xs ys (rw t at e))) (λ t. absurd (cons≢nil (rw t at e)))
  where
    holds : p x ≡ true → (all p xs ≡ true) × (ys ≡ []) → (all p (x ∷ xs) ≡ true) × (ys ≡ [])
    holds t r = (rw (t, r.0) refl, r.1)

all_hold : (ks : List Case) → failing ks ≡ [] → all case_holds ks ≡ true
unfolding failing case_holds
all_hold [] e = refl
all_hold (case s bs ps cs ∷ ks) e =
    let r = filter_none (claim_holds bs ps) (λ c. (s, c)) cs (failing ks) e in
    rw r.0 (all_hold ks r.1)

none_is_empty : (fs : List (String × Claim)) → None fs → fs ≡ []
none_is_empty [] h = refl
none_is_empty ((s, c) ∷ rest) h = elim h.0 [ ]

pub each_holds : (k : Case) → In k cases → case_holds k ≡ true
each_holds k m = all_in case_holds cases (all_hold cases (none_is_empty (failing cases) none_fails)) k m
