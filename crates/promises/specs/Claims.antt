-- What a row of the table of cases says: a wiring file, a plan file, and claims of the two. Assumes nothing: these are definitions.
use Rattle.std.specs.Prelude.{Bool, true, false, ◌&&◌, not, cond, List, [], ◌∷◌, ◌++◌, map, ℕ, ◌+◌, ◌*◌, ◌-◌, ltb, eqb, length, get_or, set, replicate, codes}
use Prim.Native.String.{String}
use Rattle.std.specs.Int.Bits.{bit_xor}
use Rattle.rack.specs.Limits.{most_callers, most_traffic, lent_plan}
use Rattle.rack.specs.Lists.{all, filter, tabulate, differ, same, sum}
use Rattle.rack.specs.Wiring.{Link, wiring, link_at}
use Rattle.rack.specs.Hops.{hops}
use Rattle.rack.specs.WiringFile.{file_bytes, file_wiring, file_refusal}
use Rattle.rack.specs.Columns.{columns, column_count, address}
use Rattle.rack.specs.PlanFile.{plan_cards, plan_columns, plan_wiring, plan_hamming, address_size, address_start}
use Rattle.counting.specs.Ones.{ones_in}
use Rattle.planner.specs.PlanBytes.{plan_bytes}
use Rattle.reader.specs.Plan.{plan_refusal}
use Rattle.forwarder.specs.Forwarding.{step, Walk, walk}
use Rattle.forwarder.specs.Calls.{lent_met, walk_hops, walk_refusal}
use Rattle.crossing.specs.Differing.{plan_differing, column_number}
use Rattle.crossing.specs.Crossing.{step_column, walk_column}
use Rattle.turns.specs.Turns.{frame_caller, first_goes, choice_refusal, turns_after}
use Rattle.traffic.specs.Traffic.{raised}
use Rattle.traffic.specs.declared.Traffic.{Traffic}
use Rattle.callers.specs.Walking.{caller_walk_refusal, lent_walk_refusal}
use Rattle.conference.specs.Conference.{conference, conference_refusal}
use Rattle.pendant.specs.Pendant.{with_card, without_card}
use Rattle.totals.specs.Totals.{total_hops, column_products}
use Rattle.plan_totals.specs.Summed.{plan_total, total_refusal}
use Rattle.plan_changer.specs.Changing.{add_refusal}
use Rattle.last_card.specs.Calls.{add_card_refusal, take_off_refusal}
use Rattle.carried.specs.Carried.{carried_bytes, address_refusal_with, conference_refusal_with}
use Rattle.listing_text.specs.Listing.{column_digit, listing}

-- BYTES in hexadecimal, as docs/REQUIREMENTS.md writes them: "04 00 0a"
unfoldable pub hex_digit : (code : ℕ) → ℕ
hex_digit c = cond (ltb c 97) (c - 48) (c - 87)

unfoldable pub hex_bytes : List ℕ → List ℕ
hex_bytes [] = []
hex_bytes (x ∷ []) = []
hex_bytes (x ∷ y ∷ []) = (16 * hex_digit x + hex_digit y) ∷ []
hex_bytes (x ∷ y ∷ _ ∷ rest) = (16 * hex_digit x + hex_digit y) ∷ hex_bytes rest

unfoldable pub hex : String → List ℕ
hex s = hex_bytes (codes s)

-- CLAIMS
pub data Claim : Type 0 where
  -- the wiring file has these bytes
  file_is : List ℕ → Claim
  -- it is refused with this number and this link or card; 0 0 for accepted
  refused : (number at : ℕ) → Claim
  -- the hops over all pairs of its cards add up to this, pair by pair, and by its columns
  sums : (total : ℕ) → Claim
  -- its addresses, card by card, column 0 first
  addresses : List String → Claim
  -- its listing
  lists : String → Claim
  -- the plan has so many bytes; they are these; reading it gives this number
  plan_size : ℕ → Claim
  plan_is : List ℕ → Claim
  read_as : (number : ℕ) → Claim
  -- on the plan, the walk from a to b arrives after so many hops with these cards met; the step from a to b is stuck
  walks : (a b hops : ℕ) → (met : List ℕ) → Claim
  stuck : (a b : ℕ) → Claim
  -- the step from a to b is over this link to this card
  steps_over : (a b link far : ℕ) → Claim
  -- the walk gets stuck after so many hops with these cards met
  gets_stuck : (a b hops : ℕ) → (met : List ℕ) → Claim
  -- with these counts before it, the walk from a to b gives this number
  walk_answers : (a b : ℕ) → (frames hops : ℕ) → (number : ℕ) → Claim
  -- on the plan, two addresses differ in so many places, this column the lowest; in none
  differ_in : (a b places column : ℕ) → Claim
  differ_nowhere : (a b : ℕ) → Claim
  -- on the plan, these are the ones in the exclusive or of each byte of two addresses, and they add up to the hops between the cards
  adds_up : (a b : ℕ) → (ones : List ℕ) → Claim
  -- on the plan, a step from a to b crosses this column, and it is the first that a walk crosses; they cross none
  crosses : (a b column : ℕ) → Claim
  crosses_none : (a b : ℕ) → Claim
  -- of the wiring inside the plan, the number of a link's column
  column_is : (link column : ℕ) → Claim
  -- with these counts of a caller before it, and all others full, its walk from a to b arrives with these after it, and no other count is
  -- changed; it gives this number; the walk of a lent frame does
  counts_to : (a b caller : ℕ) → (frames hops frames_now hops_now : ℕ) → Claim
  caller_answers : (a b caller : ℕ) → (frames hops : ℕ) → (number : ℕ) → Claim
  lent_answers : (a : ℕ) → (frame : List ℕ) → (frames hops : ℕ) → (number : ℕ) → Claim
  -- of two frames, with so many turns of callers 3 and 5 and none of the others, the first goes, or the second, with these after it; they are
  -- answered with this number
  first_turn : (first second : List ℕ) → (turns_3 turns_5 now_3 now_5 : ℕ) → Claim
  second_turn : (first second : List ℕ) → (turns_3 turns_5 now_3 now_5 : ℕ) → Claim
  choice_answers : (first second : List ℕ) → (turns_3 turns_5 : ℕ) → (number : ℕ) → Claim
  -- on the plan, three cards confer at this card; at none; they are answered with this number
  confers : (a b c : ℕ) → (card : ℕ) → Claim
  confers_nowhere : (a b c : ℕ) → Claim
  conference_answers : (a b c : ℕ) → (number : ℕ) → Claim
  -- with a card more on this card the plan is this, and so much its sum of hops; without its last card
  adds : (card : ℕ) → (new : List ℕ) → (total : ℕ) → Claim
  takes_off : (new : List ℕ) → (total : ℕ) → Claim
  -- a card more, and the last card taken off, into so many lent bytes, is answered with this number
  adding_answers : (card room number : ℕ) → Claim
  taking_off_answers : (room number : ℕ) → Claim
  -- so is a card more on a plan whose reading gave a number, n and m
  adding_refused : (before n m : ℕ) → (card number : ℕ) → Claim
  -- with these sizes and this sum carried, reading the plan, card 0's address, its conference with itself and a card more on it are
  -- answered with this number
  opened_answers : (n m k total : ℕ) → (number : ℕ) → Claim

-- a walk ended so, after so many hops, with these cards met
unfoldable pub ends_so : (arrived hops : ℕ) → (met : List ℕ) → Walk → Bool
ends_so o h cs v = eqb v.arrived o && eqb (walk_hops v) h && same eqb v.met cs

-- the counts of one caller, and all others full
unfoldable pub counts_of : (caller frames hops : ℕ) → Traffic
counts_of u f h =
    let full = replicate most_callers most_traffic in
    record { frames = set full u f; hops = set full u h; turns = full }

unfoldable pub same_traffic : (s t : Traffic) → Bool
same_traffic s t = same eqb s.frames t.frames && same eqb s.hops t.hops && same eqb s.turns t.turns

-- the turns of callers 3 and 5, and none of the others
unfoldable pub turns_of : (turns_3 turns_5 : ℕ) → List ℕ
turns_of x y = set (set (replicate most_callers 0) 3 x) 5 y

-- a choice is not refused, goes to the first or not, and leaves these turns
unfoldable pub chooses : (first : Bool) → (f g ts ts_now : List ℕ) → Bool
chooses b f g ts us = eqb (choice_refusal f g ts) 0 && not (differ b (first_goes f g ts)) && same eqb (turns_after f g ts) us

unfoldable pub claim_holds : (file plan : List ℕ) → Claim → Bool
claim_holds bs ps (file_is xs) = same eqb bs xs
claim_holds bs ps (refused n i) = eqb (file_refusal bs).number n && eqb (file_refusal bs).at i
claim_holds bs ps (sums t) = eqb (total_hops (file_wiring bs)) t && eqb (column_products (columns (file_wiring bs))) t
claim_holds bs ps (addresses rows) =
    let w = file_wiring bs in
    same (same eqb) (tabulate w.cards (λ c. tabulate (column_count w) (column_digit (address w c)))) (map codes rows)
claim_holds bs ps (lists text) = same eqb (listing bs) (codes text)
claim_holds bs ps (plan_size n) = eqb (length ps) n
claim_holds bs ps (plan_is xs) = same eqb ps xs
claim_holds bs ps (read_as n) = eqb (plan_refusal ps) n
claim_holds bs ps (walks a b hops met) = ends_so 1 hops met (walk ps a b)
claim_holds bs ps (stuck a b) = eqb (step ps a b).outcome 0
claim_holds bs ps (steps_over a b i c) = let s = step ps a b in eqb s.outcome 2 && eqb s.link i && eqb s.far c
claim_holds bs ps (gets_stuck a b hops met) = ends_so 0 hops met (walk ps a b)
claim_holds bs ps (walk_answers a b f h n) = eqb (walk_refusal ps a b (record { frames = f; hops = h }) lent_met) n
claim_holds bs ps (differ_in a b n j) = eqb (plan_hamming ps a b) n && ltb j (plan_columns ps) && eqb (plan_differing ps a b) j
claim_holds bs ps (differ_nowhere a b) = eqb (plan_hamming ps a b) 0 && eqb (plan_differing ps a b) (plan_columns ps)
claim_holds bs ps (adds_up a b ones) =
    let byte : (c t : ℕ) → ℕ = λ c t. get_or ps (address_start ps c + t) 0 in
    same eqb (tabulate (address_size (plan_columns ps)) (λ t. ones_in 8 (bit_xor (byte a t) (byte b t)))) ones
    && eqb (sum ones) (hops (plan_wiring ps) a b)
claim_holds bs ps (crosses a b j) = ltb j (plan_columns ps) && eqb (step_column ps a b) j && eqb (walk_column ps a b) j
claim_holds bs ps (crosses_none a b) = eqb (step_column ps a b) (plan_columns ps) && eqb (walk_column ps a b) (plan_columns ps)
claim_holds bs ps (column_is i j) = ltb j (plan_columns ps) && eqb (column_number (plan_wiring ps) (link_at (plan_wiring ps) i)) j
claim_holds bs ps (counts_to a b u f h f_now h_now) =
    let t = counts_of u f h in
    eqb (caller_walk_refusal ps a b u t lent_met) 0
    && same_traffic (raised t u (walk ps a b).arrived (walk_hops (walk ps a b))) (counts_of u f_now h_now)
claim_holds bs ps (caller_answers a b u f h n) = eqb (caller_walk_refusal ps a b u (counts_of u f h) lent_met) n
claim_holds bs ps (lent_answers a frame f h n) = eqb (lent_walk_refusal ps a frame (counts_of (frame_caller frame) f h) lent_met) n
claim_holds bs ps (first_turn f g x y x_now y_now) = chooses true f g (turns_of x y) (turns_of x_now y_now)
claim_holds bs ps (second_turn f g x y x_now y_now) = chooses false f g (turns_of x y) (turns_of x_now y_now)
claim_holds bs ps (choice_answers f g x y n) = eqb (choice_refusal f g (turns_of x y)) n
claim_holds bs ps (confers a b c x) =
    eqb (conference_refusal ps a b c) 0 && ltb x (plan_cards ps) && eqb (conference (plan_wiring ps) a b c) x
claim_holds bs ps (confers_nowhere a b c) = eqb (conference_refusal ps a b c) 0 && eqb (conference (plan_wiring ps) a b c) (plan_cards ps)
claim_holds bs ps (conference_answers a b c n) = eqb (conference_refusal ps a b c) n
claim_holds bs ps (adds c new t) =
    let v = with_card (plan_wiring ps) c in
    eqb (add_card_refusal ps (plan_total ps) c lent_plan) 0 && same eqb (plan_bytes v) new && eqb (total_hops v) t
claim_holds bs ps (takes_off new t) =
    let v = without_card (plan_wiring ps) in
    eqb (take_off_refusal ps (plan_total ps) lent_plan) 0 && same eqb (plan_bytes v) new && eqb (total_hops v) t
claim_holds bs ps (adding_answers c room n) = eqb (add_card_refusal ps (plan_total ps) c room) n
claim_holds bs ps (taking_off_answers room n) = eqb (take_off_refusal ps (plan_total ps) room) n
claim_holds bs ps (adding_refused x n m c number) = eqb (add_refusal x n m c) number
claim_holds bs ps (opened_answers n m k t x) =
    let seen = carried_bytes ps n m k in
    eqb (total_refusal seen t) x && eqb (address_refusal_with seen t 0) x && eqb (conference_refusal_with seen t 0 0 0) x
    && eqb (add_card_refusal seen t 0 lent_plan) x

-- ROWS: a name, a wiring file, a plan file, and claims of the two
pub data Case : Type 0 where
  case : (name : String) → (file plan : List ℕ) → List Claim → Case

-- a rack, with its wiring file and its plan
unfoldable pub rack : (name : String) → (cards : ℕ) → List Link → List Claim → Case
rack s n ls cs = case s (file_bytes (wiring n ls)) (plan_bytes (wiring n ls)) cs

-- bytes as a wiring file, and as a plan file
unfoldable pub file_of : (name : String) → List ℕ → List Claim → Case
file_of s bs cs = case s bs [] cs

unfoldable pub plan_of : (name : String) → List ℕ → List Claim → Case
plan_of s ps cs = case s [] ps cs

unfoldable pub case_holds : Case → Bool
case_holds (case s bs ps cs) = all (claim_holds bs ps) cs

-- the claims that do not hold, each behind its row's name
unfoldable pub failing : List Case → List (String × Claim)
failing [] = []
failing (case s bs ps cs ∷ ks) = map (λ c. (s, c)) (filter (λ c. not (claim_holds bs ps c)) cs) ++ failing ks
