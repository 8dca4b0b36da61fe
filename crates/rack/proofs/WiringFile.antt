-- Wiring files: sizes and links by their places, a wiring from its bytes and a file from its wiring. Assumes nothing.
use mathlib.Core.Path.{◌≡◌, refl, sym, ap, ap₂, ◌∙◌}
use mathlib.Core.Bool.{true, ◌&&◌, not}
use mathlib.Core.List.{List, [], ◌∷◌, ◌++◌, append_assoc, append-nil}
use Prim.Native.Nat.{ℕ, zero, suc, ◌+◌, ◌*◌, ◌/◌, ◌%◌, ◌≤◌, ◌<◌}
use native.Mathlib.Omega.{arith}
use lib.Dec.{ltb, leb, eqb}
use lib.ListN.{length, get_or, take, drop, length-append, length-drop, get_or-append}
use lib.Seq.{drop-cons, get_or-append-add, take_all}
use borrow.Author.Tests.{eqb-true, eq-eqb, ltb-true, ltb-false, le-ltb, leb-true, le-leb, not-false}
use Rattle.rack.specs.Lists.{all, blocks}
use Rattle.rack.specs.Wiring.{Link, Wiring, link, wiring, link_count, link_at}
use Rattle.rack.specs.Limits.{most_cards, most_links}
use Rattle.rack.specs.Buffers.{number_at, two_bytes}
use Rattle.rack.specs.WiringFile.{wiring_at, file_wiring, sizes_fault, end_bytes, file_bytes}
use Rattle.rack.proofs.Logic.{and_left, and_right}
use Rattle.rack.proofs.Tables.{length_tabulate, get_or_tabulate, tabulate_ext, tabulate_get_or, length_blocks, get_or_blocks, part_then, blocks_part}
use Rattle.rack.proofs.Refusals.{cond_zero}

-- TWO BYTES
pub length_two_bytes : (v : ℕ) → length (two_bytes v) ≡ 2
unfolding two_bytes
length_two_bytes v = refl

pub two_bytes_value : (v : ℕ) → v < 65536 → v % 256 + 256 * (v / 256 % 256) ≡ v
two_bytes_value v h = omega arith

value_two_bytes : (x y : ℕ) → x < 256 → y < 256 → two_bytes (x + 256 * y) ≡ x ∷ y ∷ []
unfolding two_bytes
value_two_bytes x y hx hy =
    let e : (x + 256 * y) % 256 ≡ x = omega arith in
    let g : (x + 256 * y) / 256 ≡ y = omega arith in
    let f : y % 256 ≡ y = omega arith in
    rw (e, g, f) refl

-- NUMBERS by their places in joined bytes
pub number_at_left : (xs ys : List ℕ) (i : ℕ) → suc i < length xs → number_at (xs ++ ys) i ≡ number_at xs i
unfolding number_at
number_at_left xs ys i h =
    ap₂ (λ (a b : ℕ). a + 256 * b) (get_or-append xs ys 0 i (omega arith)) (get_or-append xs ys 0 (suc i) h)

pub number_at_right : (xs ys : List ℕ) (i : ℕ) → number_at (xs ++ ys) (length xs + i) ≡ number_at ys i
unfolding number_at
number_at_right xs ys i =
    let e : suc (length xs + i) ≡ length xs + suc i = omega arith in
    rw e (ap₂ (λ (a b : ℕ). a + 256 * b) (get_or-append-add xs ys i 0) (get_or-append-add xs ys (suc i) 0))

pub number_at_blocks : (n : ℕ) (f : ℕ → ℕ) (i : ℕ) → i < n → f i < 65536 → number_at (blocks n (λ i. two_bytes (f i))) (2 * i) ≡ f i
unfolding number_at two_bytes
number_at_blocks n f i h l =
    let e : 2 * i ≡ i * 2 + 0 = omega arith in
    let g : suc (2 * i) ≡ i * 2 + 1 = omega arith in
    ap₂ (λ (a b : ℕ). a + 256 * b)
    (ap (λ (p : ℕ). get_or (blocks n (λ i. two_bytes (f i))) p 0) e ∙ get_or_blocks n 2 (λ i. two_bytes (f i)) (λ i. refl) i 0 0 h (omega arith))
    (ap (λ (p : ℕ). get_or (blocks n (λ i. two_bytes (f i))) p 0) g ∙ get_or_blocks n 2 (λ i. two_bytes (f i)) (λ i. refl) i 1 0 h (omega arith))
    ∙ two_bytes_value (f i) l

-- A WIRING whose numbers fit 16 bits
pub record Fits (w : Wiring) : Type 0 where
  pub cards : w.cards < 65536
  pub count : link_count w < 65536
  pub first : (i : ℕ) → i < link_count w → (link_at w i).first < 65536
  pub second : (i : ℕ) → i < link_count w → (link_at w i).second < 65536

length_ends : (n : ℕ) (f : ℕ → ℕ) → length (blocks n (λ i. two_bytes (f i))) ≡ 2 * n
length_ends n f = omega (arith, length_blocks n 2 (λ i. two_bytes (f i)) (λ i. length_two_bytes (f i)))

pub length_end_bytes : (w : Wiring) → length (end_bytes w) ≡ 4 * link_count w
unfolding end_bytes
length_end_bytes w =
    simp length-append (omega (arith, length_ends (link_count w) (λ i. (link_at w i).first), length_ends (link_count w) (λ i. (link_at w i).second)))

first_end : (w : Wiring) → Fits w → (i : ℕ) → i < link_count w → number_at (end_bytes w) (2 * i) ≡ (link_at w i).first
unfolding end_bytes
first_end w f i h =
    number_at_left _ _ (2 * i) (omega (arith, length_ends (link_count w) (λ i. (link_at w i).first)))
    ∙ number_at_blocks (link_count w) (λ i. (link_at w i).first) i h (f.first i h)

second_end : (w : Wiring) → Fits w → (i : ℕ) → i < link_count w → number_at (end_bytes w) (2 * link_count w + 2 * i) ≡ (link_at w i).second
unfolding end_bytes
second_end w f i h =
    rw (← (length_ends (link_count w) (λ i. (link_at w i).first)))
    (number_at_right (blocks (link_count w) (λ i. two_bytes (link_at w i).first)) (blocks (link_count w) (λ i. two_bytes (link_at w i).second)) (2 * i)
    ∙ number_at_blocks (link_count w) (λ i. (link_at w i).second) i h (f.second i h))

-- the wiring of bytes that have its sizes in front and its ends from `base` on
module _ (w : Wiring) (f : Fits w) (head rest : List ℕ) (base : ℕ) (long : length head ≡ base) where
  abbrev written : List ℕ
  written = head ++ end_bytes w ++ rest

  at_end : (i : ℕ) → suc i < 4 * link_count w → number_at written (base + i) ≡ number_at (end_bytes w) i
  at_end i h =
      rw (append_assoc head (end_bytes w) rest, ← long)
      (number_at_right head (end_bytes w ++ rest) i ∙ number_at_left (end_bytes w) rest i (omega (arith, length_end_bytes w)))

  pub wiring_at_written : number_at written 0 ≡ w.cards → number_at written 2 ≡ link_count w → wiring_at base written ≡ w
  unfolding wiring_at
  wiring_at_written en em =
      rw (en, em)
      (ap (wiring w.cards) (tabulate_ext (link_count w) _ (link_at w) ends ∙ tabulate_get_or w.links (link 0 0)))
    where
      ends : (i : ℕ) → i < link_count w → link (number_at written (base + 2 * i)) (number_at written (base + 2 * link_count w + 2 * i)) ≡ link_at w i
      ends i h =
          let e : base + 2 * link_count w + 2 * i ≡ base + (2 * link_count w + 2 * i) = omega arith in
          ap₂ link (at_end (2 * i) (omega arith) ∙ first_end w f i h)
          (ap (number_at written) e ∙ at_end (2 * link_count w + 2 * i) (omega arith) ∙ second_end w f i h)

pub file_bytes_wiring : (w : Wiring) → Fits w → file_wiring (file_bytes w) ≡ w
unfolding file_bytes number_at two_bytes
file_bytes_wiring w f =
    ap (wiring_at 4) (sym (append-nil (two_bytes w.cards ++ two_bytes (link_count w) ++ end_bytes w)))
    ∙ wiring_at_written w f (two_bytes w.cards ++ two_bytes (link_count w)) [] 4 refl (two_bytes_value w.cards f.cards)
    (two_bytes_value (link_count w) f.count)

-- A WIRING FILE by its sizes
pub wiring_at_cards : (base : ℕ) (bs : List ℕ) → (wiring_at base bs).cards ≡ number_at bs 0
unfolding wiring_at
wiring_at_cards base bs = refl

pub wiring_at_count : (base : ℕ) (bs : List ℕ) → link_count (wiring_at base bs) ≡ number_at bs 2
unfolding wiring_at
wiring_at_count base bs = length_tabulate (number_at bs 2) _

pub wiring_at_link : (base : ℕ) (bs : List ℕ) (i : ℕ) → i < number_at bs 2
    → link_at (wiring_at base bs) i ≡ link (number_at bs (base + 2 * i)) (number_at bs (base + 2 * number_at bs 2 + 2 * i))
unfolding wiring_at
wiring_at_link base bs i h = get_or_tabulate (number_at bs 2) _ i (link 0 0) h

pub record Sized (bs : List ℕ) : Type 0 where
  pub head : 4 ≤ length bs
  pub some : 1 ≤ number_at bs 0
  pub cards : number_at bs 0 ≤ most_cards
  pub links : number_at bs 2 ≤ most_links
  pub long : length bs ≡ 4 + 4 * number_at bs 2

pub sizes_clear : (bs : List ℕ) → sizes_fault bs ≡ 0 → Sized bs
unfolding sizes_fault
sizes_clear bs h =
    let n = number_at bs 0 in
    let m = number_at bs 2 in
    let c₂ = cond_zero (ltb (length bs) 4) 2 _ (λ e. omega arith) h in
    let c₃ = cond_zero (not (leb 1 n && leb n most_cards)) 3 _ (λ e. omega arith) c₂.1 in
    let c₄ = cond_zero (ltb most_links m) 4 _ (λ e. omega arith) c₃.1 in
    let c₅ = cond_zero (not (eqb (length bs) (4 + 4 * m))) 5 0 (λ e. omega arith) c₄.1 in
    let r = not-false (leb 1 n && leb n most_cards) c₃.0 in
    record {
      head = ltb-false (length bs) 4 c₂.0;
      some = leb-true 1 n (and_left (leb 1 n) (leb n most_cards) r);
      cards = leb-true n most_cards (and_right (leb 1 n) (leb n most_cards) r);
      links = ltb-false most_links m c₄.0;
      long = eqb-true (length bs) (4 + 4 * m) (not-false (eqb (length bs) (4 + 4 * m)) c₅.0);
    }

pub sized_clear : (bs : List ℕ) → Sized bs → sizes_fault bs ≡ 0
unfolding sizes_fault
sized_clear bs z =
    rw (
      le-ltb (length bs) 4 z.head,
      le-leb 1 (number_at bs 0) z.some,
      le-leb (number_at bs 0) most_cards z.cards,
      le-ltb most_links (number_at bs 2) z.links,
      eq-eqb (length bs) (4 + 4 * number_at bs 2) z.long,
    ) refl

pub file_bytes_sized : (w : Wiring) → Fits w → 1 ≤ w.cards → w.cards ≤ most_cards → link_count w ≤ most_links → Sized (file_bytes w)
unfolding file_bytes number_at two_bytes
file_bytes_sized w f some cards links =
    let n : number_at (file_bytes w) 0 ≡ w.cards = two_bytes_value w.cards f.cards in
    let m : number_at (file_bytes w) 2 ≡ link_count w = two_bytes_value (link_count w) f.count in
    record {
      head = omega arith;
      some = omega arith;
      cards = omega arith;
      links = omega arith;
      long = rw m (omega (arith, length_end_bytes w));
    }

-- THE FILE of a file's wiring is the file
pub byte_below : (bs : List ℕ) → all (λ b. ltb b 256) bs ≡ true → (i : ℕ) → get_or bs i 0 < 256
byte_below [] h i = omega arith
byte_below (x ∷ xs) h zero = ltb-true x 256 (and_left (ltb x 256) (all (λ b. ltb b 256) xs) h)
byte_below (x ∷ xs) h (suc i) = byte_below xs (and_right (ltb x 256) (all (λ b. ltb b 256) xs) h) i

module _ (bs : List ℕ) (bytes : all (λ b. ltb b 256) bs ≡ true) where
  pair : (p : ℕ) → two_bytes (number_at bs p) ≡ get_or bs p 0 ∷ get_or bs (suc p) 0 ∷ []
  unfolding number_at
  pair p = value_two_bytes (get_or bs p 0) (get_or bs (suc p) 0) (byte_below bs bytes p) (byte_below bs bytes (suc p))

  pub number_part : (p : ℕ) → suc p < length bs → two_bytes (number_at bs p) ≡ take 2 (drop p bs)
  number_part p h = pair p ∙ sym (rw (drop-cons bs p 0 (omega arith), drop-cons bs (suc p) 0 h) refl)

  -- k numbers from p on
  numbers_part : (k p : ℕ) (f : ℕ → ℕ) → p + 2 * k ≤ length bs → ((i : ℕ) → i < k → f i ≡ number_at bs (p + 2 * i))
      → blocks k (λ i. two_bytes (f i)) ≡ take (2 * k) (drop p bs)
  numbers_part k p f h each = let e : k * 2 ≡ 2 * k = omega arith in rw e at (blocks_part bs k 2 p (λ i. two_bytes (f i)) place)
    where
      place : (i : ℕ) → i < k → two_bytes (f i) ≡ take 2 (drop (p + i * 2) bs)
      place i l =
          let e : p + 2 * i ≡ p + i * 2 = omega arith in
          ap two_bytes (each i l) ∙ number_part (p + 2 * i) (omega arith) ∙ ap (λ (q : ℕ). take 2 (drop q bs)) e

  -- the ends of the links, from `base` on
  pub ends_part : (base : ℕ) → base + 4 * number_at bs 2 ≤ length bs → end_bytes (wiring_at base bs) ≡ take (4 * number_at bs 2) (drop base bs)
  unfolding end_bytes
  ends_part base h =
      let m = number_at bs 2 in
      let e : 2 * m + 2 * m ≡ 4 * m = omega arith in
      rw (wiring_at_count base bs)
      (ap₂ ◌++◌
      (numbers_part m base (λ i. (link_at (wiring_at base bs) i).first) (omega arith) (λ i l. ap (λ (x : Link). x.first) (wiring_at_link base bs i l)))
      (numbers_part m (base + 2 * m) (λ i. (link_at (wiring_at base bs) i).second) (omega arith) (λ i l. ap (λ (x : Link). x.second) (wiring_at_link base bs i l)))
      ∙ rw e at (part_then bs base (2 * m) (2 * m)))

  four : 4 ≤ length bs → bs ≡ two_bytes (number_at bs 0) ++ two_bytes (number_at bs 2) ++ drop 4 bs
  four h =
      rw (pair 0, pair 2)
      (drop-cons bs 0 0 (omega arith) ∙ ap (λ (t : List ℕ). get_or bs 0 0 ∷ t) (drop-cons bs 1 0 (omega arith)
      ∙ ap (λ (t : List ℕ). get_or bs 1 0 ∷ t) (drop-cons bs 2 0 (omega arith) ∙ ap (λ (t : List ℕ). get_or bs 2 0 ∷ t) (drop-cons bs 3 0 (omega arith)))))

  ends_drop : Sized bs → end_bytes (wiring_at 4 bs) ≡ drop 4 bs
  ends_drop z =
      ends_part 4 (omega (arith, z.long)) ∙ take_all (4 * number_at bs 2) (drop 4 bs) (omega (arith, length-drop 4 bs, z.long))

  pub file_wiring_bytes : Sized bs → file_bytes (file_wiring bs) ≡ bs
  unfolding file_bytes
  file_wiring_bytes z = rw (ends_drop z, wiring_at_count 4 bs, wiring_at_cards 4 bs) (sym (four z.head))
