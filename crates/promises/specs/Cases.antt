-- The table of cases: P1 to P10 of docs/REQUIREMENTS.md, and a row for each rule that these do not show. Assumes nothing: these are definitions.
use Rattle.std.specs.Prelude.{List, [], ◌∷◌, ◌++◌, ℕ, take, set, replicate}
use Rattle.rack.specs.Wiring.{Link, link, wiring}
use Rattle.planner.specs.PlanBytes.{plan_bytes}
use Rattle.promises.specs.Claims.{hex, Case, rack, file_of, plan_of}
use Rattle.promises.specs.Claims.{file_is, refused, sums, addresses, lists, plan_size, plan_is, read_as, walks, stuck, steps_over, walk_answers}
use Rattle.promises.specs.Claims.{gets_stuck, differ_in, differ_nowhere, adds_up, crosses, crosses_none, column_is}
use Rattle.promises.specs.Claims.{counts_to, caller_answers, lent_answers, first_turn, second_turn, choice_answers}
use Rattle.promises.specs.Claims.{confers, confers_nowhere, conference_answers}
use Rattle.promises.specs.Claims.{adds, takes_off, adding_answers, taking_off_answers, adding_refused, opened_answers}

unfoldable pub ring_of_four : List Link
ring_of_four = link 0 1 ∷ link 1 2 ∷ link 2 3 ∷ link 3 0 ∷ []

unfoldable pub ring_of_six : List Link
ring_of_six = link 0 1 ∷ link 1 2 ∷ link 2 3 ∷ link 3 4 ∷ link 4 5 ∷ link 5 0 ∷ []

-- P5's plan; the addresses of its cards are bytes 22 to 25
unfoldable pub ring_plan : List ℕ
ring_plan = plan_bytes (wiring 4 ring_of_four)

-- stars around card 0: of nine cards, whose addresses fill a byte, and of ten
unfoldable pub star_of_nine_plan : List ℕ
star_of_nine_plan =
    hex "09 00 08 00 08 00" ++ hex "00 00 00 00 00 00 00 00 00 00 00 00 00 00 00 00" ++ hex "01 00 02 00 03 00 04 00 05 00 06 00 07 00 08 00"
    ++ hex "00 01 02 04 08 10 20 40 80"

unfoldable pub star_of_ten_plan : List ℕ
star_of_ten_plan =
    hex "0a 00 09 00 09 00" ++ hex "00 00 00 00 00 00 00 00 00 00 00 00 00 00 00 00 00 00"
    ++ hex "01 00 02 00 03 00 04 00 05 00 06 00 07 00 08 00 09 00" ++ hex "00 00 01 00 02 00 04 00 08 00 10 00 20 00 40 00 80 00 00 01"

-- P3's plan
unfoldable pub doubled_plan : List ℕ
doubled_plan = hex "02 00 02 00 01 00" ++ hex "00 00 01 00 01 00 00 00" ++ hex "00 01"

-- P1 to P10, in their order
unfoldable pub required_cases : List Case
required_cases =
    rack "P1: one card" 1 []
    (refused 0 0 ∷ sums 0 ∷ addresses ("" ∷ []) ∷ plan_size 6 ∷ lists "cards 1\nlinks 0\ncolumns 0\ncard 0 -\n" ∷ [])
    ∷ rack "P2: two cards apart" 2 [] (refused 9 1 ∷ lists "refused 9 card 1\n" ∷ [])
    ∷ rack "P3: a link doubled" 2 (link 0 1 ∷ link 1 0 ∷ [])
    (refused 0 0 ∷ sums 1 ∷ addresses ("0" ∷ "1" ∷ []) ∷ plan_is doubled_plan ∷ read_as 0
    ∷ lists "cards 2\nlinks 2\ncolumns 1\ncard 0 0\ncard 1 1\n" ∷ [])
    ∷ rack "P4: three in line" 3 (link 0 1 ∷ link 1 2 ∷ []) (refused 0 0 ∷ sums 4 ∷ addresses ("00" ∷ "10" ∷ "11" ∷ []) ∷ [])
    ∷ rack "P5: the ring of four" 4 ring_of_four
    (refused 0 0 ∷ sums 8 ∷ addresses ("00" ∷ "10" ∷ "11" ∷ "01" ∷ [])
    ∷ file_is (hex "04 00 04 00 00 00 01 00 02 00 03 00 01 00 02 00 03 00 00 00")
    ∷ plan_is (hex "04 00 04 00 02 00" ++ hex "00 00 01 00 02 00 03 00 01 00 02 00 03 00 00 00" ++ hex "00 01 03 02") ∷ plan_size 26
    ∷ read_as 0
    ∷ lists "cards 4\nlinks 4\ncolumns 2\ncard 0 00\ncard 1 10\ncard 2 11\ncard 3 01\n" ∷ [])
    ∷ rack "P6: the ring of six" 6 ring_of_six
    (refused 0 0 ∷ sums 27 ∷ addresses ("000" ∷ "100" ∷ "110" ∷ "111" ∷ "011" ∷ "001" ∷ []) ∷ [])
    ∷ rack "P7: the triangle" 3 (link 0 1 ∷ link 1 2 ∷ link 2 0 ∷ []) (refused 10 1 ∷ lists "refused 10 link 1\n" ∷ [])
    ∷ rack "P8: two by three" 5 (link 0 2 ∷ link 0 3 ∷ link 0 4 ∷ link 1 2 ∷ link 1 3 ∷ link 1 4 ∷ [])
    (refused 11 0 ∷ lists "refused 11\n" ∷ [])
    ∷ rack "P9: a walk on P5" 4 ring_of_four (walks 0 2 2 (0 ∷ 1 ∷ 2 ∷ []) ∷ [])
    ∷ plan_of "P10: P5's plan with card 2's address made 0" (set ring_plan 24 0) (read_as 13 ∷ stuck 0 2 ∷ [])
    ∷ []

-- 2 to 5, the first that applies; numbers over 255 have a high byte
unfoldable pub size_cases : List Case
size_cases =
    file_of "three bytes: 2 before 3" (hex "00 00 00") (refused 2 0 ∷ lists "refused 2\n" ∷ [])
    ∷ file_of "no card and 2,049 links: 3 before 4" (hex "00 00 01 08") (refused 3 0 ∷ lists "refused 3\n" ∷ [])
    ∷ rack "257 cards" 257 [] (file_is (hex "01 01 00 00") ∷ refused 3 0 ∷ [])
    ∷ file_of "256 cards and 2,049 links in 4 bytes: 4 before 5" (hex "00 01 01 08") (refused 4 0 ∷ lists "refused 4\n" ∷ [])
    ∷ file_of "256 cards and 2,048 links in 4 bytes" (hex "00 01 00 08") (refused 5 0 ∷ lists "refused 5\n" ∷ [])
    ∷ file_of "a byte short, and an end that is no card: 5 before 6" (hex "02 00 01 00 05 00 01") (refused 5 0 ∷ [])
    ∷ file_of "a byte too many" (hex "01 00 00 00 00") (refused 5 0 ∷ [])
    ∷ []

-- 6 to 8, the three tests of a link before the next link; the lowest link in fault
unfoldable pub link_cases : List Case
link_cases =
    rack "both ends are card 2 of two: 6 before 7" 2 (link 2 2 ∷ []) (refused 6 0 ∷ lists "refused 6 link 0\n" ∷ [])
    ∷ rack "card 256 of 256" 256 (link 0 256 ∷ []) (file_is (hex "00 01 01 00 00 00 00 01") ∷ refused 6 0 ∷ [])
    ∷ rack "a first end, then a second: the lowest link" 2 (link 0 1 ∷ link 2 0 ∷ link 0 2 ∷ []) (refused 6 1 ∷ [])
    ∷ rack "7 of a link before 6 of the next" 3 (link 0 1 ∷ link 1 1 ∷ link 0 3 ∷ []) (refused 7 1 ∷ lists "refused 7 link 1\n" ∷ [])
    ∷ rack "8 of a link before 7 and 6 of the next" 3 (link 0 1 ∷ link 0 1 ∷ link 0 1 ∷ link 1 1 ∷ link 0 3 ∷ []) (refused 8 2 ∷ [])
    ∷ []

-- two links between the same cards: 8 is a third, they share a column, a step takes the lower, and a last card on them stays
unfoldable pub twin_cases : List Case
twin_cases =
    rack "P3 with a third link: 8 with the third" 2 (link 0 1 ∷ link 1 0 ∷ link 0 1 ∷ []) (refused 8 2 ∷ lists "refused 8 link 2\n" ∷ [])
    ∷ rack "a third between other twins, and a fourth: the lowest link" 3
    (link 1 0 ∷ link 1 2 ∷ link 1 0 ∷ link 2 1 ∷ link 0 1 ∷ link 1 2 ∷ link 0 1 ∷ []) (refused 8 4 ∷ [])
    ∷ rack "twins, then no card 7: 6 of a link before 8 of the next" 2 (link 0 1 ∷ link 1 0 ∷ link 0 7 ∷ link 0 1 ∷ []) (refused 6 2 ∷ [])
    ∷ rack "twins, then card 1 to itself: 7 of a link before 8 of the next" 2 (link 0 1 ∷ link 1 0 ∷ link 1 1 ∷ link 0 1 ∷ []) (refused 7 2 ∷ [])
    ∷ plan_of "P3: one column, the lower link both ways; its last card stays, and a card more has one link" doubled_plan
    (column_is 0 0 ∷ column_is 1 0 ∷ steps_over 0 1 0 1 ∷ steps_over 1 0 0 0 ∷ taking_off_answers 16390 17
    ∷ adds 1 (hex "03 00 03 00 02 00" ++ hex "00 00 01 00 01 00 01 00 00 00 02 00" ++ hex "00 01 03") 4 ∷ [])
    ∷ rack "P5 with each link doubled behind it, the other way round: its columns and its steps" 4
    (ring_of_four ++ (link 1 0 ∷ link 2 1 ∷ link 3 2 ∷ link 0 3 ∷ []))
    (refused 0 0 ∷ read_as 0 ∷ sums 8 ∷ column_is 4 0 ∷ column_is 5 1 ∷ column_is 7 1
    ∷ steps_over 0 2 0 1 ∷ steps_over 0 3 3 3 ∷ walks 0 2 2 (0 ∷ 1 ∷ 2 ∷ []) ∷ addresses ("00" ∷ "10" ∷ "11" ∷ "01" ∷ []) ∷ [])
    ∷ rack "P5 behind a twin of its last link: that column comes first" 4 (link 0 3 ∷ ring_of_four)
    (refused 0 0 ∷ addresses ("00" ∷ "01" ∷ "11" ∷ "10" ∷ []) ∷ column_is 4 0 ∷ steps_over 0 2 0 3 ∷ steps_over 3 0 0 0 ∷ [])
    ∷ rack "P7 behind a twin of its level link: 10 with the lower" 3 (link 2 1 ∷ link 0 1 ∷ link 1 2 ∷ link 2 0 ∷ []) (refused 10 0 ∷ [])
    ∷ rack "P8 with each link doubled" 5
    (link 0 2 ∷ link 0 3 ∷ link 0 4 ∷ link 1 2 ∷ link 1 3 ∷ link 1 4 ∷ link 2 0 ∷ link 0 3 ∷ link 4 0 ∷ link 1 2 ∷ link 3 1 ∷ link 1 4 ∷ [])
    (refused 11 0 ∷ [])
    ∷ rack "a last card on a doubled cable, which is not last: 17" 3 (link 2 1 ∷ link 0 1 ∷ link 1 2 ∷ []) (taking_off_answers 16390 17 ∷ [])
    ∷ rack "a last card behind a doubled cable is taken off" 3 (link 0 1 ∷ link 1 0 ∷ link 1 2 ∷ []) (takes_off doubled_plan 1 ∷ [])
    ∷ []

-- 9 to 11, each with the lowest card or link
unfoldable pub rack_cases : List Case
rack_cases =
    rack "cards 2, 3 and 4 apart: 9 with the lowest" 5 (link 0 1 ∷ link 2 3 ∷ link 3 4 ∷ []) (refused 9 2 ∷ [])
    ∷ rack "a triangle, and card 3 apart: 9 before 10" 4 (link 0 1 ∷ link 1 2 ∷ link 2 0 ∷ []) (refused 9 3 ∷ [])
    ∷ rack "links 3, 4 and 5 level: 10 with the lowest" 4 (link 0 1 ∷ link 0 2 ∷ link 0 3 ∷ link 2 3 ∷ link 1 3 ∷ link 1 2 ∷ [])
    (refused 10 3 ∷ [])
    ∷ rack "the ring of four from link 1-2 on: columns by their lowest link" 4 (link 1 2 ∷ link 0 1 ∷ link 2 3 ∷ link 3 0 ∷ [])
    (refused 0 0 ∷ addresses ("00" ∷ "01" ∷ "11" ∷ "10" ∷ []) ∷ [])
    ∷ rack "a star of ten: nine columns in two bytes" 10
    (link 0 1 ∷ link 0 2 ∷ link 0 3 ∷ link 0 4 ∷ link 0 5 ∷ link 0 6 ∷ link 0 7 ∷ link 0 8 ∷ link 0 9 ∷ [])
    (refused 0 0 ∷ plan_is star_of_ten_plan ∷ read_as 0 ∷ [])
    ∷ rack "one column" 2 (link 0 1 ∷ [])
    (refused 0 0 ∷ plan_is (hex "02 00 01 00 01 00 00 00 01 00 00 01") ∷ lists "cards 2\nlinks 1\ncolumns 1\ncard 0 0\ncard 1 1\n" ∷ [])
    ∷ []

-- plans that the planner does not write: 12, 13, and the steps on them
unfoldable pub plan_cases : List Case
plan_cases =
    plan_of "P5's plan without its last byte" (take 25 ring_plan) (read_as 12 ∷ [])
    ∷ plan_of "P5's plan and a byte behind it" (ring_plan ++ hex "00") (read_as 12 ∷ [])
    ∷ plan_of "a plan of five bytes" (hex "01 00 00 00 00") (read_as 12 ∷ [])
    ∷ plan_of "a plan of no card" (hex "00 00 00 00 00 00") (read_as 12 ∷ [])
    ∷ plan_of "a plan of 256 cards" (hex "00 01 00 00 00 00") (read_as 13 ∷ [])
    ∷ plan_of "a plan of 257 cards" (hex "01 01 00 00 00 00") (read_as 12 ∷ [])
    ∷ plan_of "a plan of 255 columns" (hex "01 00 00 00 ff 00" ++ replicate 32 0) (read_as 13 ∷ [])
    ∷ plan_of "a plan of 256 columns" (hex "01 00 00 00 00 01" ++ replicate 32 0) (read_as 12 ∷ [])
    ∷ plan_of "P5's plan with a spare bit: 13, and it does not count" (set ring_plan 23 5) (read_as 13 ∷ walks 0 2 2 (0 ∷ 1 ∷ 2 ∷ []) ∷ [])
    ∷ plan_of "nine columns: the last is bit 0 of the second byte" (hex "02 00 01 00 09 00 00 00 01 00 00 00 00 01")
    (read_as 13 ∷ walks 0 1 1 (0 ∷ 1 ∷ []) ∷ [])
    ∷ plan_of "nine columns: the other bits of the second byte are spare" (hex "02 00 01 00 09 00 00 00 01 00 00 00 00 fe")
    (read_as 13 ∷ stuck 0 1 ∷ [])
    ∷ plan_of "the first link that leads nearer, not the nearest card" (set ring_plan 25 3) (walks 0 2 2 (0 ∷ 1 ∷ 2 ∷ []) ∷ [])
    ∷ plan_of "an end that is no card is passed over" (set ring_plan 8 9) (walks 2 0 2 (2 ∷ 3 ∷ 0 ∷ []) ∷ [])
    ∷ plan_of "a walk from a card to itself" ring_plan (walks 1 1 0 (1 ∷ []) ∷ [])
    ∷ []

-- 12, 14 and 15 of a walk, the first that applies; a stuck walk raises no count
unfoldable pub call_cases : List Case
call_cases =
    plan_of "no layout and no card 4: 12 before 14" (take 25 ring_plan) (walk_answers 4 4 0 0 12 ∷ [])
    ∷ plan_of "no card 4, and full counts: 14 before 15" ring_plan
    (walk_answers 4 0 4294967295 4294967295 14 ∷ walk_answers 0 4 4294967295 4294967295 14 ∷ [])
    ∷ plan_of "the last frame that is counted" ring_plan (walk_answers 0 2 4294967294 0 0 ∷ walk_answers 0 2 4294967295 0 15 ∷ [])
    ∷ plan_of "the last hops that are counted" ring_plan (walk_answers 0 2 0 4294967293 0 ∷ walk_answers 0 2 0 4294967294 15 ∷ [])
    ∷ plan_of "stuck, and full counts" (set ring_plan 24 0) (walk_answers 0 2 4294967295 4294967295 0 ∷ [])
    ∷ []

-- columns crossed, the lowest that differs, by steps and walks of the ring of four and on plans that reading refuses
unfoldable pub crossing_cases : List Case
crossing_cases =
    plan_of "P9's first step, and a step over each link of P5: the link's column" ring_plan
    (crosses 0 2 0 ∷ crosses 0 3 1 ∷ crosses 3 0 1 ∷ crosses 1 2 1 ∷ crosses 2 3 0
    ∷ column_is 0 0 ∷ column_is 1 1 ∷ column_is 2 0 ∷ column_is 3 1 ∷ [])
    ∷ rack "the ring of four from link 1-2 on: columns by their lowest link" 4 (link 1 2 ∷ link 0 1 ∷ link 2 3 ∷ link 3 0 ∷ [])
    (column_is 0 0 ∷ column_is 1 1 ∷ column_is 2 1 ∷ column_is 3 0 ∷ crosses 0 1 1 ∷ crosses 3 0 0 ∷ [])
    ∷ plan_of "arrived: none" ring_plan (crosses_none 0 0 ∷ crosses_none 3 3 ∷ differ_nowhere 3 3 ∷ [])
    ∷ plan_of "P10: a stuck step crosses none, and a walk that is stuck after a hop has its column" (set ring_plan 24 0)
    (stuck 0 2 ∷ crosses_none 0 2 ∷ differ_nowhere 0 2 ∷ gets_stuck 1 2 1 (1 ∷ 0 ∷ []) ∷ crosses 1 2 0 ∷ [])
    ∷ plan_of "two columns differ: the lowest, from the card itself and not from its goal" (set ring_plan 23 3)
    (crosses 0 2 0 ∷ differ_in 0 1 2 0 ∷ differ_nowhere 1 2 ∷ [])
    ∷ plan_of "P5's plan with a spare bit, which is no column" (set ring_plan 23 5) (differ_in 0 1 1 0 ∷ differ_in 1 2 1 1 ∷ crosses 0 2 0 ∷ [])
    ∷ plan_of "nine columns: column 8 is the lowest" (hex "02 00 01 00 09 00 00 00 01 00 00 00 00 01") (differ_in 0 1 1 8 ∷ crosses 1 0 8 ∷ [])
    ∷ plan_of "nine columns: only spare bits differ" (hex "02 00 01 00 09 00 00 00 01 00 00 00 00 fe") (differ_nowhere 0 1 ∷ crosses_none 0 1 ∷ [])
    ∷ plan_of "nine columns: all differ, those of a byte and one of the next" (hex "02 00 01 00 09 00 00 00 01 00 0f 00 f0 ff") (differ_in 0 1 9 0 ∷ [])
    ∷ plan_of "addresses of two bytes, byte by byte" star_of_ten_plan
    (adds_up 1 9 (1 ∷ 1 ∷ []) ∷ adds_up 8 0 (1 ∷ 0 ∷ []) ∷ adds_up 3 4 (2 ∷ 0 ∷ []) ∷ adds_up 9 9 (0 ∷ 0 ∷ []) ∷ [])
    ∷ rack "one card, no column" 1 [] (crosses_none 0 0 ∷ differ_nowhere 0 0 ∷ adds_up 0 0 [] ∷ [])
    ∷ []

-- walks by caller: the counts of that caller alone, and 12, 19, 18, 14, 15, the first that applies
unfoldable pub caller_cases : List Case
caller_cases =
    plan_of "P9 as a walk of caller 3, and of callers 0 and 15" ring_plan
    (counts_to 0 2 3 7 9 8 11 ∷ counts_to 0 2 0 4294967294 4294967293 4294967295 4294967295 ∷ counts_to 3 1 15 0 0 1 2 ∷ [])
    ∷ plan_of "a card to itself: its hops may be full, its frames not" ring_plan
    (counts_to 1 1 3 7 4294967295 8 4294967295 ∷ caller_answers 1 1 3 4294967295 0 15 ∷ [])
    ∷ plan_of "no caller 16: 18 before 14 and 15" ring_plan
    (caller_answers 0 2 16 0 0 18 ∷ caller_answers 0 4 16 0 0 18 ∷ caller_answers 0 2 4294967295 4294967295 0 18 ∷ caller_answers 0 4 15 0 0 14 ∷ [])
    ∷ plan_of "that caller's counts are full: 15" ring_plan
    (caller_answers 0 2 3 4294967295 0 15 ∷ caller_answers 0 2 3 0 4294967294 15 ∷ caller_answers 0 4 3 4294967295 0 14 ∷ [])
    ∷ plan_of "P10: a stuck walk with all counts full" (set ring_plan 24 0)
    (counts_to 0 2 3 4294967295 4294967295 4294967295 4294967295 ∷ counts_to 1 2 3 4294967295 4294967295 4294967295 4294967295 ∷ [])
    ∷ plan_of "no layout: 12 before 19, 18 and 14" (take 25 ring_plan)
    (caller_answers 0 4 16 0 0 12 ∷ lent_answers 0 [] 0 0 12 ∷ lent_answers 0 (hex "04 00 10") 0 0 12 ∷ [])
    ∷ plan_of "a lent frame: 19 before 18, 18 before 14, 14 before 15" ring_plan
    (lent_answers 9 [] 0 0 19 ∷ lent_answers 0 (hex "02 00") 0 0 19 ∷ lent_answers 0 (hex "04 00 10") 0 0 18 ∷ lent_answers 0 (hex "04 00 03") 4294967295 0 14
    ∷ lent_answers 0 (hex "02 00 03") 4294967295 0 15 ∷ lent_answers 0 (hex "02 00 03") 0 0 0 ∷ lent_answers 0 (hex "02 00 0f ff") 0 0 0
    ∷ lent_answers 0 (hex "00 02 03") 0 0 14 ∷ [])
    ∷ []

-- of two frames that wait: the one whose caller has had fewer turns, the first if level; 19, 18, 15, the first that applies
unfoldable pub turn_cases : List Case
turn_cases =
    plan_of "level: the first, of either caller" []
    (first_turn (hex "02 00 03") (hex "01 00 05") 7 7 8 7 ∷ first_turn (hex "01 00 05") (hex "02 00 03") 7 7 7 8
    ∷ first_turn (hex "02 00 03") (hex "01 00 03") 7 0 8 0 ∷ [])
    ∷ plan_of "fewer turns: the first, or the second" []
    (first_turn (hex "02 00 03") (hex "01 00 05") 6 7 7 7 ∷ second_turn (hex "02 00 03") (hex "01 00 05") 8 7 8 8
    ∷ second_turn (hex "02 00 03") (hex "01 00 05") 4294967295 4294967294 4294967295 4294967295 ∷ [])
    ∷ plan_of "a short frame: 19 before 18 and 15, either frame" []
    (choice_answers (hex "02 00") (hex "01 00 10") 0 0 19 ∷ choice_answers (hex "02 00 10") [] 0 0 19
    ∷ choice_answers (hex "02 00 03") (hex "01 00") 4294967295 0 19 ∷ [])
    ∷ plan_of "no caller 16: 18 before 15, either frame" []
    (choice_answers (hex "02 00 10") (hex "01 00 05") 0 0 18 ∷ choice_answers (hex "02 00 03") (hex "01 00 ff") 4294967295 0 18 ∷ [])
    ∷ plan_of "both callers' turns are full: 15" []
    (choice_answers (hex "02 00 03") (hex "01 00 05") 4294967295 4294967295 15 ∷ choice_answers (hex "02 00 03") (hex "01 00 05") 4294967294 4294967295 0 ∷ [])
    ∷ []

-- three in conference: a card or none, and 12, 13, 14, the first that applies
unfoldable pub conference_cases : List Case
conference_cases =
    rack "one card, three times" 1 [] (confers 0 0 0 0 ∷ [])
    ∷ rack "three ends of a star: its middle" 4 (link 0 1 ∷ link 0 2 ∷ link 0 3 ∷ []) (confers 1 2 3 0 ∷ [])
    ∷ rack "the ring of six: the middle one of three in line, or none" 6 ring_of_six
    (confers_nowhere 0 2 4 ∷ confers_nowhere 5 3 1 ∷ confers 0 2 3 2 ∷ confers 3 0 2 2 ∷ [])
    ∷ rack "the ring of six: a card named twice" 6 ring_of_six (confers 1 1 4 1 ∷ confers 4 1 4 4 ∷ confers 0 3 3 3 ∷ confers 0 0 0 0 ∷ [])
    ∷ plan_of "the ring of four: card 0 is an answer, not none" ring_plan (confers 1 0 3 0 ∷ confers 0 1 2 1 ∷ [])
    ∷ plan_of "no card 4, each of the three: 14" ring_plan
    (conference_answers 4 0 0 14 ∷ conference_answers 0 4 0 14 ∷ conference_answers 0 0 4 14 ∷ [])
    ∷ plan_of "P10's plan and no card 4: 13 before 14" (set ring_plan 24 0) (conference_answers 4 4 4 13 ∷ conference_answers 0 1 2 13 ∷ [])
    ∷ plan_of "no layout and no card 4: 12 before 13 and 14" (take 25 ring_plan) (conference_answers 4 4 4 12 ∷ [])
    ∷ []

-- a card more and the last card taken off: the planner's bytes and the sum of hops, and 1, 12 to 14, 16 and 17, the first that applies
unfoldable pub last_card_cases : List Case
last_card_cases =
    rack "P1 with a card more; its only card stays" 1 []
    (adds 0 (hex "02 00 01 00 01 00 00 00 01 00 00 01") 1 ∷ adding_answers 1 16390 14 ∷ taking_off_answers 16390 17 ∷ [])
    ∷ rack "P4 without its last card, and with one more" 3 (link 0 1 ∷ link 1 2 ∷ [])
    (takes_off (hex "02 00 01 00 01 00 00 00 01 00 00 01") 1
    ∷ adds 1 (hex "04 00 03 00 03 00" ++ hex "00 00 01 00 01 00 01 00 02 00 03 00" ++ hex "00 01 03 05") 9 ∷ [])
    ∷ plan_of "P5 with a card at 2; its last card has two links" ring_plan
    (adds 2 (hex "05 00 05 00 03 00" ++ hex "00 00 01 00 02 00 03 00 02 00 01 00 02 00 03 00 00 00 04 00" ++ hex "00 01 03 02 07") 16
    ∷ taking_off_answers 16390 17 ∷ [])
    ∷ rack "two cards, the link drawn from the last" 2 (link 1 0 ∷ []) (takes_off (hex "01 00 00 00 00 00") 0 ∷ [])
    ∷ rack "the last card's one link is not the last link" 3 (link 0 2 ∷ link 0 1 ∷ []) (taking_off_answers 16390 17 ∷ [])
    ∷ plan_of "a star of nine with a card more: addresses of two bytes" star_of_nine_plan (adds 0 star_of_ten_plan 81 ∷ [])
    ∷ plan_of "a star of ten without its last card: addresses of one byte" star_of_ten_plan (takes_off star_of_nine_plan 64 ∷ [])
    ∷ plan_of "another length lent: 1 before 14 and 17" ring_plan
    (adding_answers 4 16389 1 ∷ adding_answers 4 16391 1 ∷ taking_off_answers 16389 1 ∷ taking_off_answers 16391 1 ∷ [])
    ∷ plan_of "no layout and no card 4: 1 before 12, 12 before 14 and 17" (take 25 ring_plan)
    (adding_answers 4 0 1 ∷ taking_off_answers 0 1 ∷ adding_answers 4 16390 12 ∷ taking_off_answers 16390 12 ∷ [])
    ∷ plan_of "P10's plan and no card 4: 13 before 14 and 17" (set ring_plan 24 0) (adding_answers 4 16390 13 ∷ taking_off_answers 16390 13 ∷ [])
    ∷ plan_of "256 cards, or 2,048 links: 14 before 16" []
    (adding_refused 0 256 255 256 14 ∷ adding_refused 0 256 255 255 16 ∷ adding_refused 0 255 2048 254 16 ∷ adding_refused 0 255 2048 255 14
    ∷ adding_refused 13 256 255 255 13 ∷ adding_refused 0 255 2047 254 0 ∷ [])
    ∷ []

-- an opened plan's sizes and its sum: other sizes are 12, and another sum is 13 in the calls that test 13
unfoldable pub opened_cases : List Case
opened_cases =
    rack "P1 and its sum, 0" 1 [] (opened_answers 1 0 0 0 0 ∷ opened_answers 1 0 0 1 13 ∷ [])
    ∷ plan_of "P5's plan: a size or the sum one off" ring_plan
    (opened_answers 4 4 2 8 0 ∷ opened_answers 4 4 2 7 13 ∷ opened_answers 4 4 2 9 13
    ∷ opened_answers 3 4 2 8 12 ∷ opened_answers 4 5 2 8 12 ∷ opened_answers 4 4 1 8 12 ∷ [])
    ∷ plan_of "another size and another sum: 12 before 13" ring_plan (opened_answers 5 4 2 9 12 ∷ opened_answers 0 0 0 0 12 ∷ [])
    ∷ plan_of "P10's plan: 13 with any sum" (set ring_plan 24 0) (opened_answers 4 4 2 8 13 ∷ opened_answers 4 4 2 0 13 ∷ [])
    ∷ plan_of "no layout: 12 with any sum" (take 25 ring_plan) (opened_answers 4 4 2 8 12 ∷ opened_answers 0 0 0 0 12 ∷ [])
    ∷ []

unfoldable pub cases : List Case
cases =
    required_cases ++ size_cases ++ link_cases ++ twin_cases ++ rack_cases ++ plan_cases ++ call_cases ++ crossing_cases
    ++ caller_cases ++ turn_cases ++ conference_cases ++ last_card_cases ++ opened_cases
