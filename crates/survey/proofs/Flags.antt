-- Flags spread over links: a flagged card can be reached, at most 256 flags, and flags that no link moves are those of all cards that can be reached. Assumes nothing.
use mathlib.Core.Path.{◌≡◌, refl, sym, ap, ◌∙◌}
use mathlib.Core.Bool.{Bool, true, false, not}
use mathlib.Core.List.{List}
use mathlib.Core.Logic.{inl, inr, ◌≢◌}
use Prim.Native.Nat.{ℕ, suc, ◌+◌, ◌≤◌, ◌<◌}
use native.Mathlib.Omega.{arith}
use native.Mathlib.Numerals.{add-one}
use lib.Dec.{eqb}
use lib.ListN.{length, get_or, set, replicate, length-set}
use lib.Seq.{get_or-set_same, get_or-set_other}
use borrow.Author.Tests.{eqb-true, eqb-false, eq-eqb, ne_eqb, not-true, not-false}
use Rattle.rack.specs.Limits.{lent_hops}
use Rattle.rack.specs.Lists.{count, range}
use Rattle.rack.specs.Wiring.{Link, Wiring, link, link_count, link_at, linked}
use Rattle.rack.specs.Hops.{hops, unreached, connected}
use Rattle.rack.specs.Refusals.{refusal, reach_refusal}
use Rattle.rack.specs.WiringFile.{file_wiring}
use Rattle.rack.proofs.Logic.{by_eq, by_lt}
use Rattle.rack.proofs.Lists.{In, in_get_or, get_or_in, count_le_length, count_more}
use Rattle.rack.proofs.Tables.{length_tabulate, in_range, distinct_range, lowest_is}
use Rattle.rack.proofs.Paths.{Ends, Changes, linked_link, link_joins, linked_sym, path_one, path_join, path_changes}
use Rattle.rack.proofs.Hops.{hops_le, hops_path, path_below, hops_self, zero_connected}
use Rattle.rack.specs.Formed.{SizesAre, Formed}
use Rattle.survey.specs.Flags.{flags, Flagged, Spread, Reached}
use Rattle.rack.proofs.Zeros.{zeros_long, zeros_at}
use Rattle.survey.proofs.Forms.{cards_are, links_are}

-- COUNTS of flags
abbrev is_flagged : List ℕ → (c : ℕ) → Bool
is_flagged s c = not (eqb (get_or s c 0) 0)

flagged_true : (s : List ℕ) (c : ℕ) → get_or s c 0 ≢ 0 → is_flagged s c ≡ true
flagged_true s c n = rw (ne_eqb (get_or s c 0) 0 n) refl

flagged_false : (s : List ℕ) (c : ℕ) → get_or s c 0 ≡ 0 → is_flagged s c ≡ false
flagged_false s c e = rw (eq-eqb (get_or s c 0) 0 e) refl

count_few : (n : ℕ) (t : ℕ → Bool) → count t (range n) ≤ n
count_few n t = omega (arith, count_le_length t (range n), length_tabulate n (λ i. i))

pub few_flags : (s : List ℕ) → flags s ≤ 256
unfolding flags
few_flags s = count_few 256 (is_flagged s)

count_flag : (n : ℕ) (s : List ℕ) (c : ℕ) → c < n → c < length s → get_or s c 0 ≡ 0 → count (is_flagged (set s c 1)) (range n) ≡ suc (count (is_flagged s) (range n))
count_flag n s c l long z =
    count_more (is_flagged (set s c 1)) (is_flagged s) c (range n) (distinct_range n) (in_range n c l)
    (flagged_true (set s c 1) c (λ e. omega (arith, e, get_or-set_same s c 1 0 long)))
    (flagged_false s c z)
    (λ j m d. ap (λ (x : ℕ). not (eqb x 0)) (get_or-set_other s c j 1 0 (λ e. d (sym e))))

flags_more : (s : List ℕ) (c : ℕ) → c < 256 → c < length s → get_or s c 0 ≡ 0 → flags (set s c 1) ≡ flags s + 1
unfolding flags
flags_more s c l long z = count_flag 256 s c l long z ∙ sym (add-one (count (is_flagged s) (range 256)))

-- ONE NEW FLAG, at a card linked to a flagged one
hops_next : (w : Wiring) (c d : ℕ) → c < w.cards → linked w d c ≡ true → hops w 0 d < w.cards → hops w 0 c < w.cards
hops_next w c d hc e h =
    path_below w (hops w 0 d + 1) 0 c (omega arith) (path_join w (hops w 0 d) 1 0 d c (hops_path w 0 d h) (path_one w d c hc e))

module _ (w : Wiring) (s : List ℕ) (c d : ℕ) (flagged : Flagged w s) (few : w.cards ≤ 256) (hc : c < w.cards) (hd : d < w.cards)
    (joined : linked w d c ≡ true) (zc : get_or s c 0 ≡ 0) (nd : get_or s d 0 ≢ 0) where
  flag_more : Flagged w (set s c 1)
  flag_more =
      record {
        long = length-set s c 1 ∙ flagged.long;
        flag = λ x. by_eq x c (λ e. rw e (omega (arith, here))) (λ n. omega (arith, get_or-set_other s c x 1 0 n, flagged.flag x));
        start = get_or-set_other s c 0 1 0 (λ e. other_start e) ∙ flagged.start;
        real = λ x hx n. by_eq x c (λ e. rw e (hops_next w c d hc joined (flagged.real d hd nd)))
            (λ k. flagged.real x hx (λ e. n (get_or-set_other s c x 1 0 k ∙ e)));
      }
    where
      here : get_or (set s c 1) c 0 ≡ 1
      here = get_or-set_same s c 1 0 (omega (arith, flagged.long))

      other_start : 0 ≡ c → ⊥
      other_start e = omega (arith, flagged.start, ap (λ (x : ℕ). get_or s x 0) e)

  spread_more : (i : ℕ) → Spread w s (set s c 1) i (i + 1) 1
  spread_more i =
      record {
        flagged = flag_more;
        more = flags_more s c (omega arith) (omega (arith, flagged.long)) zc;
        still = λ e. absurd (omega arith);
        closed = λ e. absurd (omega arith);
      }

-- ONE LINK of a file
module _ (bs : List ℕ) (n m : ℕ) (formed : Formed bs n m) (s : List ℕ) (i p q : ℕ) (inside : i < m) (flagged : Flagged (file_wiring bs) s)
    (ep : p ≡ (link_at (file_wiring bs) i).first) (eq : q ≡ (link_at (file_wiring bs) i).second) where
  cards : (file_wiring bs).cards ≡ n
  cards = cards_are bs n m formed.sizes

  joined : linked (file_wiring bs) p q ≡ true
  joined = rw (ep, eq) (link_joins (file_wiring bs) (link_at (file_wiring bs) i) (in_get_or (file_wiring bs).links i (link 0 0) (omega (arith, links_are bs n m formed.sizes))))

  few : (file_wiring bs).cards ≤ 256
  few = omega (arith, cards, formed.sizes.few)

  inside_first : p < (file_wiring bs).cards
  inside_first = omega (arith, cards, formed.first i inside)

  inside_second : q < (file_wiring bs).cards
  inside_second = omega (arith, cards, formed.second i inside)

  pub link_first : get_or s p 0 ≢ get_or s q 0 → get_or s p 0 ≡ 0 → Spread (file_wiring bs) s (set s p 1) i (i + 1) 1
  link_first ne z =
      spread_more (file_wiring bs) s p q flagged few inside_first inside_second (linked_sym (file_wiring bs) p q joined) z (λ e. ne (z ∙ sym e)) i

  pub link_second : get_or s p 0 ≢ get_or s q 0 → get_or s p 0 ≢ 0 → Spread (file_wiring bs) s (set s q 1) i (i + 1) 1
  link_second ne n =
      spread_more (file_wiring bs) s q p flagged few inside_second inside_first joined (omega (arith, flagged.flag p, flagged.flag q)) n i

-- CARD 0 ALONE
pub first_flag : (w : Wiring) (s : List ℕ) → s ≡ replicate lent_hops 0 → 1 ≤ w.cards → Flagged w (set s 0 1)
first_flag w s e some =
    record {
      long = length-set s 0 1 ∙ zeros_long lent_hops s e;
      flag = λ c. by_eq c 0 (λ d. rw d (omega (arith, start))) (λ n. omega (arith, get_or-set_other s 0 c 1 0 n, zeros_at lent_hops s e c));
      start = start;
      real = λ c h n. by_eq c 0 (λ d. rw d (omega (arith, hops_self w 0))) (λ k. absurd (n (get_or-set_other s 0 c 1 0 k ∙ zeros_at lent_hops s e c)));
    }
  where
    start : get_or (set s 0 1) 0 0 ≡ 1
    start = get_or-set_same s 0 1 0 (omega (arith, zeros_long lent_hops s e))

-- FLAGS THAT NO LINK MOVES
module _ (w : Wiring) (s : List ℕ) (flagged : Flagged w s)
    (closed : (i : ℕ) → i < link_count w → get_or s (link_at w i).first 0 ≡ get_or s (link_at w i).second 0) where
  same_flags : (d e : ℕ) (l : Link) → In l w.links → Ends d e l → get_or s d 0 ≡ get_or s e 0
  same_flags d e l m (inl f) = let r = get_or_in w.links (link 0 0) l m in cc (closed r.0 r.1)
  same_flags d e l m (inr f) = let r = get_or_in w.links (link 0 0) l m in cc (closed r.0 r.1)

  no_change : Changes w (is_flagged s) → ⊥
  no_change (d, e, j, td, te) =
      let r = linked_link w d e j in
      let z : get_or s e 0 ≡ 0 = eqb-true (get_or s e 0) 0 (not-false (eqb (get_or s e 0) 0) te) in
      eqb-false (get_or s d 0) 0 (not-true (eqb (get_or s d 0) 0) td) (same_flags d e r.0 r.1 r.2 ∙ z)

  reached : Reached w s
  reached =
      record {
        long = flagged.long;
        reach = flagged.real;
        apart = λ c h z. by_lt (hops w 0 c) w.cards
            (λ l. absurd (no_change (path_changes w (is_flagged s) (hops w 0 c) 0 c (hops_path w 0 c l)
            (flagged_true s 0 (λ e. omega (arith, e, flagged.start))) (flagged_false s c z))))
            (λ l. omega (arith, hops_le w 0 c));
      }

pub spread_reached : (bs old new : List ℕ) (n m moved : ℕ) → SizesAre bs n m → moved ≡ 0 → Spread (file_wiring bs) old new 0 m moved → Reached (file_wiring bs) new
spread_reached bs old new n m moved sizes z x =
    reached (file_wiring bs) new x.flagged (λ i l. x.closed z i (omega arith) (omega (arith, links_are bs n m sizes)))

-- THE LOWEST CARD without a flag
module _ (w : Wiring) (s : List ℕ) (r : Reached w s) (c : ℕ) (before : (j : ℕ) → j < c → get_or s j 0 ≢ 0) where
  pub unflagged_here : c < w.cards → get_or s c 0 ≡ 0 → reach_refusal w ≡ refusal 9 c
  unfolding reach_refusal connected unreached
  unflagged_here l z =
      let e : unreached w ≡ c =
      lowest_is w.cards (λ c. eqb (hops w 0 c) w.cards) c (omega arith)
      (λ j k. ne_eqb (hops w 0 j) w.cards (λ f. omega (arith, f, r.reach j (omega arith) (before j k))))
      (λ k. eq-eqb (hops w 0 c) w.cards (r.apart c l z)) in
      rw (e, ne_eqb c w.cards (λ f. omega arith)) refl

  pub unflagged_none : w.cards ≤ c → reach_refusal w ≡ refusal 0 0
  unfolding reach_refusal
  unflagged_none l = rw (zero_connected w (λ j k. r.reach j k (before j (omega arith)))) refl
