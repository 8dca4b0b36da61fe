-- The place that a refusal names, and room for its line. Assumes nothing.
use mathlib.Core.Path.{◌≡◌, refl}
use mathlib.Core.Bool.{Bool, true, false}
use mathlib.Core.Logic.{◌≢◌, ◌⊎◌, inl, inr}
use mathlib.Core.List.{[], ◌++◌}
use Prim.Native.Nat.{ℕ, ◌+◌, ◌≤◌}
use lib.ListN.{length}
use borrow.Author.Tests.{eq-eqb, ne_eqb}
use Rattle.rack.specs.Refusals.{Refusal, refusal}
use Rattle.rack.specs.Refused.{refusal_of}
use Rattle.rack.specs.declared.refused.Refused.{Refused}
use Rattle.rack.specs.declared.refused.Refused.TheVariants.{Lent, NoSizes, Cards, Links, Length, NoEnd, OneCard, Parallel, Unreached, OddLoop, NoAddresses, Layout, Content, NoCard, Full, Largest, NotLast, NoCaller, NoFrame}
use Rattle.text.specs.Decimals.{decimal}
use Rattle.listing_text.specs.Listing.{refused_word, at_link, at_card, line_end, names_link, place_text, refused_text}
use Rattle.rack.proofs.Putting.{room_first}

-- THE PLACE, a link, a card or none, from the test of its number
pub place_link : (number at : ℕ) (t : Bool) → t ≡ names_link number → t ≡ true → place_text (refusal number at) ≡ at_link ++ decimal at
unfolding place_text
place_link number at t e h = rw (← e, h) refl

pub place_card : (number at : ℕ) (t : Bool) → t ≡ names_link number → t ≡ false → number ≡ 9
    → place_text (refusal number at) ≡ at_card ++ decimal at
unfolding place_text
place_card number at t e h nine = rw (← e, h, eq-eqb number 9 nine) refl

pub place_none : (number at : ℕ) (t : Bool) → t ≡ names_link number → t ≡ false → number ≢ 9 → place_text (refusal number at) ≡ []
unfolding place_text
place_none number at t e h n = rw (← e, h, ne_eqb number 9 n) refl

-- THE PLACE from the refusal itself
pub link_named : (r : Refused) (at : ℕ) → (r ≡ NoEnd at) ⊎ (r ≡ OneCard at) ⊎ (r ≡ Parallel at) ⊎ (r ≡ OddLoop at)
    → place_text (refusal_of r) ≡ at_link ++ decimal at
unfolding place_text names_link
link_named r at (inl e) = rw e refl
link_named r at (inr (inl e)) = rw e refl
link_named r at (inr (inr (inl e))) = rw e refl
link_named r at (inr (inr (inr e))) = rw e refl

pub card_named : (r : Refused) (at : ℕ) → r ≡ Unreached at → place_text (refusal_of r) ≡ at_card ++ decimal at
unfolding place_text names_link
card_named r at e = rw e refl

pub none_named : (r : Refused) → ((x : ℕ) → r ≡ NoEnd x → ⊥) → ((x : ℕ) → r ≡ OneCard x → ⊥) → ((x : ℕ) → r ≡ Parallel x → ⊥)
    → ((x : ℕ) → r ≡ Unreached x → ⊥) → ((x : ℕ) → r ≡ OddLoop x → ⊥) → place_text (refusal_of r) ≡ []
unfolding place_text names_link
none_named Lent n o p u l = refl
none_named NoSizes n o p u l = refl
none_named Cards n o p u l = refl
none_named Links n o p u l = refl
none_named Length n o p u l = refl
none_named (NoEnd x) n o p u l = absurd (n x refl)
none_named (OneCard x) n o p u l = absurd (o x refl)
none_named (Parallel x) n o p u l = absurd (p x refl)
none_named (Unreached x) n o p u l = absurd (u x refl)
none_named (OddLoop x) n o p u l = absurd (l x refl)
none_named NoAddresses n o p u l = refl
none_named Layout n o p u l = refl
none_named Content n o p u l = refl
none_named NoCard n o p u l = refl
none_named Full n o p u l = refl
none_named Largest n o p u l = refl
none_named NotLast n o p u l = refl
none_named NoCaller n o p u l = refl
none_named NoFrame n o p u l = refl

-- ROOM for the line is room for its parts
pub record RefusedRoom (at room : ℕ) (f : Refusal) : Type 0 where
  pub number : at + length (refused_word ++ decimal f.number) ≤ room
  pub place : at + length (refused_word ++ decimal f.number ++ place_text f) ≤ room
  pub line : at + length (refused_word ++ decimal f.number ++ place_text f ++ line_end) ≤ room

pub refused_room : (at room : ℕ) (f : Refusal) → at + length (refused_text f) ≤ room → RefusedRoom at room f
unfolding refused_text
refused_room at room f h =
    let place = room_first at room (refused_word ++ decimal f.number ++ place_text f) line_end h in
    record { number = room_first at room (refused_word ++ decimal f.number) (place_text f) place; place = place; line = h }
