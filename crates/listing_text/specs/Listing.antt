-- The listing of a wiring file, line by line, in the codes of its text. Assumes nothing: these are definitions.
use Rattle.std.specs.Prelude.{◌≡◌, Bool, ◌||◌, cond, List, [], ◌++◌, ℕ, ◌≤◌, eqb, length, codes}
use Rattle.rack.specs.Limits.{most_cards, most_links, most_columns}
use Rattle.rack.specs.Lists.{one, tabulate, blocks}
use Rattle.rack.specs.Wiring.{Wiring, link_count}
use Rattle.rack.specs.Columns.{column_count, address}
use Rattle.rack.specs.Refusals.{Refusal, refusal}
use Rattle.rack.specs.WiringFile.{file_wiring, file_refusal}
use Rattle.planner.specs.Planning.{AnswerIs, left_in}
use Rattle.planner.specs.Answer.{Answer}
use Rattle.text.specs.Decimals.{digit_code, decimal}

-- the sizes of a rack that is listed
abbrev pub SizesFit : (cards links columns : ℕ) → Type 0
SizesFit cards links columns = (cards ≤ most_cards) × (links ≤ most_links) × (columns ≤ most_columns)

-- THE FIXED WORDS
unfoldable pub cards_word : List ℕ
cards_word = codes "cards "

unfoldable pub links_word : List ℕ
links_word = codes "links "

unfoldable pub columns_word : List ℕ
columns_word = codes "columns "

unfoldable pub card_word : List ℕ
card_word = codes "card "

unfoldable pub refused_word : List ℕ
refused_word = codes "refused "

unfoldable pub at_link : List ℕ
at_link = codes " link "

unfoldable pub at_card : List ℕ
at_card = codes " card "

unfoldable pub space : List ℕ
space = codes " "

unfoldable pub dash : List ℕ
dash = codes "-"

-- every line ends with byte 10
unfoldable pub line_end : List ℕ
line_end = codes "\n"

-- AN ACCEPTED RACK: a word and a number on a line
unfoldable pub number_line : (word : List ℕ) → (v : ℕ) → List ℕ
number_line word v = word ++ decimal v ++ line_end

-- the digit of column j
abbrev pub column_digit : (row : ℕ → Bool) → (j : ℕ) → ℕ
column_digit row j = digit_code (one (row j))

-- an address of k columns, column 0 first, or - where k is 0
unfoldable pub address_text : (k : ℕ) → (row : ℕ → Bool) → List ℕ
address_text k row = cond (eqb k 0) dash (tabulate k (column_digit row))

unfoldable pub card_line : (k : ℕ) → (rows : ℕ → ℕ → Bool) → (c : ℕ) → List ℕ
card_line k rows c = card_word ++ decimal c ++ space ++ address_text k (rows c) ++ line_end

unfoldable pub size_lines : (n m k : ℕ) → List ℕ
size_lines n m k = number_line cards_word n ++ number_line links_word m ++ number_line columns_word k

unfoldable pub rack_lines : (n m k : ℕ) → (rows : ℕ → ℕ → Bool) → List ℕ
rack_lines n m k rows = size_lines n m k ++ blocks n (card_line k rows)

unfoldable pub rack_text : Wiring → List ℕ
rack_text w = rack_lines w.cards (link_count w) (column_count w) (address w)

-- A REFUSAL: 6, 7, 8 and 10 name a link, 9 a card
unfoldable pub names_link : (number : ℕ) → Bool
names_link x = eqb x 6 || eqb x 7 || eqb x 8 || eqb x 10

unfoldable pub place_text : Refusal → List ℕ
place_text f = cond (names_link f.number) (at_link ++ decimal f.at) (cond (eqb f.number 9) (at_card ++ decimal f.at) [])

unfoldable pub refused_text : Refusal → List ℕ
refused_text f = refused_word ++ decimal f.number ++ place_text f ++ line_end

unfoldable pub listing : List ℕ → List ℕ
listing bs = cond (eqb (file_refusal bs).number 0) (rack_text (file_wiring bs)) (refused_text (file_refusal bs))

-- the lent buffer: room for the three lines of sizes and for 256 card lines of 265 bytes, each with three digits and 255 columns
abbrev pub lent_text : ℕ
lent_text = 67873

-- 1, or the text in the lent buffer with zeros behind it, and its length
unfoldable pub listing_refusal : (room : ℕ) → Refusal
listing_refusal n = cond (eqb n lent_text) (refusal 0 0) (refusal 1 0)

pub record ListingSays (bs : List ℕ) (r : Answer) (text text_now : List ℕ) : Type 0 where
  pub answer : AnswerIs (listing_refusal (length text)) (length (listing bs)) r
  pub text_left : text_now ≡ left_in r.number (listing bs) text
