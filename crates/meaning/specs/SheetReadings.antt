-- Values that pin readings of docs/DECISIONS.md and sentences of document 01: set calls, texts, run and check. Each line is a case where another reading would give another answer. Proved by computation
-- in proofs/SheetReadings.antt. Assumes nothing.
use Rattle.std.specs.Prelude.{ℤ, pos, take, drop, replicate, ◌≡◌, true, false, List, [], ◌∷◌, ◌++◌, ℕ, zero, suc, ◌+◌, ◌-◌, ◌*◌}
use Prim.Native.Char.{code}
use Rattle.meaning.specs.Bytes.{bytes, LF}
use Rattle.meaning.specs.Outcome.{ok, stop, done, stopped}
use Rattle.meaning.specs.Number.{minus, MIN, MAX, neg, abs, not', add, sub, mul, div, rem, le, lt, ne, and, or}
use Rattle.meaning.specs.Interval.{span, only}
use Rattle.meaning.specs.NumberIntervals.{intervals}
use Rattle.meaning.specs.SetCalls.{refusal, refusal2, factor1, factor2, need1, need2, written, refused as not_written, returns1, out1, work1, returns2, returns_union, out_union, returns_intersect}
use Rattle.meaning.specs.Sheet.{registers, lit, reg, form1, form2, put, hold, act}
use Rattle.meaning.specs.Text.{sheet, no_sheet, read, line_at, cut}
use Rattle.meaning.specs.Run.{refused, worked, run_text, verdict, run_call, left_by, run_lent}
use Rattle.meaning.specs.OtherThanNine.{settle_with_nine}
use Rattle.meaning.specs.Check.{start_sets, settle, interval_limit, check_text, check_call, slot, layout, sets_left_by, work_left_by}

-- n single numbers with one missing between neighbours, by their ends
abbrev pub singles : ℕ → List ℤ
singles zero = []
singles (suc n) = singles n ++ pos (2 * n) ∷ pos (2 * n) ∷ []

pub record SheetReadings : Type 0 where
  -- 33 numbers are too many, 3 are odd, 16 intervals are not too many and 17 are
  pub many_before_odd : refusal (replicate 33 (pos 0)) ≡ 2
  pub odd : refusal (pos 1 ∷ pos 2 ∷ pos 5 ∷ []) ≡ 1
  pub sixteen_fine : refusal (singles 16) ≡ 0
  pub seventeen : refusal (singles 17) ≡ 2
  -- sorted
  pub unsorted : refusal (pos 5 ∷ pos 6 ∷ pos 1 ∷ pos 2 ∷ []) ≡ 1
  -- [1,2],[3,4] is not a normal set
  pub touching_refused : refusal (pos 1 ∷ pos 2 ∷ pos 3 ∷ pos 4 ∷ []) ≡ 1
  -- the empty slice is the empty set
  pub empty_fine : refusal [] ≡ 0
  -- a left set that is not normal comes before a right set of 34 numbers
  pub left_first : refusal2 (pos 5 ∷ pos 1 ∷ []) (replicate 34 (pos 0)) ≡ 1
  -- 16 intervals by 16 in rem need all of 8192
  pub full_need : need2 (factor2 rem) (replicate 32 (pos 0)) (replicate 32 (pos 0)) ≡ 8192
  pub div_need : need2 (factor2 div) (replicate 4 (pos 0)) (replicate 2 (pos 0)) ≡ 48
  pub mul_need : need2 (factor2 mul) (replicate 4 (pos 0)) (replicate 2 (pos 0)) ≡ 8
  pub abs_need : need1 (factor1 abs) (replicate 4 (pos 0)) ≡ 8
  -- neg {1} writes 2 numbers; what lies past the answer and past the need of 4 stays
  pub neg_returns : returns1 neg (pos 1 ∷ pos 1 ∷ []) true (replicate 3 (pos 9)) (replicate 5 (pos 7)) ≡ written 2 true
  pub neg_out : out1 neg (pos 1 ∷ pos 1 ∷ []) true (replicate 3 (pos 9)) (replicate 5 (pos 7)) ≡ minus 1 ∷ minus 1 ∷ pos 9 ∷ []
  pub neg_work : work1 neg (pos 1 ∷ pos 1 ∷ []) true (replicate 3 (pos 9)) (replicate 5 (pos 7)) ≡ pos 0 ∷ pos 0 ∷ pos 0 ∷ pos 0 ∷ pos 7 ∷ []
  -- union and intersect have no flag
  pub union_returns : returns_union (pos 1 ∷ pos 1 ∷ []) (pos 2 ∷ pos 2 ∷ []) (replicate 3 (pos 9)) ≡ written 2 false
  pub intersect_returns : returns_intersect (pos 1 ∷ pos 1 ∷ []) (pos 2 ∷ pos 2 ∷ []) [] ≡ written 0 false
  -- a set call closes no gap (02, (v)): 17 intervals are written
  pub union_closes_nothing : returns_union (singles 16) (pos 99 ∷ pos 99 ∷ []) (replicate 34 (pos 9)) ≡ written 34 false
  pub union_all_written : out_union (singles 16) (pos 99 ∷ pos 99 ∷ []) (replicate 34 (pos 9)) ≡ singles 16 ++ pos 99 ∷ pos 99 ∷ []
  pub add_closes_nothing : returns2 add (singles 16) false (pos 0 ∷ pos 0 ∷ pos 2 ∷ pos 2 ∷ []) (replicate 34 (pos 9)) (replicate 128 (pos 7)) ≡ written 34 false
  -- 3 comes before 4 and leaves all as lent
  pub short_work : returns1 neg (pos 1 ∷ pos 1 ∷ []) true [] (replicate 3 (pos 7)) ≡ not_written 3
  pub short_work_left : work1 neg (pos 1 ∷ pos 1 ∷ []) true [] (replicate 3 (pos 7)) ≡ replicate 3 (pos 7)
  -- 4 leaves out as lent and zeroes the need
  pub short_out : returns1 neg (pos 1 ∷ pos 1 ∷ []) true (pos 9 ∷ []) (replicate 5 (pos 7)) ≡ not_written 4
  pub short_out_left : out1 neg (pos 1 ∷ pos 1 ∷ []) true (pos 9 ∷ []) (replicate 5 (pos 7)) ≡ pos 9 ∷ []
  pub short_out_work : work1 neg (pos 1 ∷ pos 1 ∷ []) true (pos 9 ∷ []) (replicate 5 (pos 7)) ≡ pos 0 ∷ pos 0 ∷ pos 0 ∷ pos 0 ∷ pos 7 ∷ []
  -- the empty text is a sheet
  pub empty_text : read [] ≡ sheet []
  -- a line without a form
  pub empty_line : read (bytes "\n") ≡ no_sheet 6 1
  -- the last LF is missing
  pub no_last_feed : read (bytes "(put 0 1)") ≡ no_sheet 5 0
  -- 5 comes before 6, over the whole text: a line of 121 bytes on line 2
  pub long_line : read (bytes "x\n" ++ (replicate 121 (code "1") ++ bytes "\n")) ≡ no_sheet 5 0
  -- a line of 120 bytes is read
  pub line_of_120 : read (bytes "x\n" ++ (replicate 120 (code "1") ++ bytes "\n")) ≡ no_sheet 6 1
  -- a CR counts toward the 120
  pub long_by_return : read (replicate 120 (code "1") ++ bytes "\r\n") ≡ no_sheet 5 0
  -- 257 lines
  pub lines_257 : read (replicate 257 LF) ≡ no_sheet 5 0
  pub lines_256 : read (replicate 256 LF) ≡ no_sheet 6 1
  -- 7 on line 1 comes before 6 on line 2
  pub line_by_line : read (bytes "(put 0 9999999999999999)\nx\n") ≡ no_sheet 7 1
  -- on one line 6 comes before 7
  pub grammar_first : read (bytes "(put 0 99999999999999999999.1234)\n") ≡ no_sheet 6 1
  pub grammar_first_behind : read (bytes "(put 0 9999999999999999) x\n") ≡ no_sheet 6 1
  -- 7 comes before LO past HI
  pub far_before_crossed : read (bytes "(in 0 9999999999999999 1)\n") ≡ no_sheet 7 1
  -- LO past HI comes before 8
  pub crossed_before_8 : read (bytes "(put 0 1)\n(in 0 2 1)\n") ≡ no_sheet 6 2
  -- an `in` behind another kind, of whatever register
  pub in_late : read (bytes "(put 0 1)\n(in 1 0 1)\n") ≡ no_sheet 8 2
  -- a second `in` for a register
  pub in_twice : read (bytes "(in 0 0 1)\n(in 0 0 1)\n") ≡ no_sheet 8 2
  -- 8 on line 2 comes before 6 on line 3
  pub late_before_grammar : read (bytes "(put 0 1)\n(in 0 0 1)\nx\n") ≡ no_sheet 8 2
  pub needless_zero : read (bytes "(put 0 01)\n") ≡ no_sheet 6 1
  pub minus_needless_zero : read (bytes "(put 0 -01)\n") ≡ no_sheet 6 1
  pub plus : read (bytes "(put 0 +1)\n") ≡ no_sheet 6 1
  pub no_whole_part : read (bytes "(put 0 .5)\n") ≡ no_sheet 6 1
  pub bare_point : read (bytes "(put 0 1.)\n") ≡ no_sheet 6 1
  pub four_decimals : read (bytes "(put 0 1.0000)\n") ≡ no_sheet 6 1
  pub register_16 : read (bytes "(put 16 1)\n") ≡ no_sheet 6 1
  pub register_01 : read (bytes "(put 01 1)\n") ≡ no_sheet 6 1
  -- a register is never 7, a literal of any length is
  pub register_of_forty : read (bytes "(put 9999999999999999999999999999999999999999 1)\n") ≡ no_sheet 6 1
  pub literal_of_forty : read (bytes "(put 1 9999999999999999999999999999999999999999)\n") ≡ no_sheet 7 1
  pub bracketed_literal : read (bytes "(put 0 (1))\n") ≡ no_sheet 6 1
  pub trailing_space : read (bytes "(put 0 1) \n") ≡ no_sheet 6 1
  pub leading_space : read (bytes " (put 0 1)\n") ≡ no_sheet 6 1
  pub tab : read (bytes "(put\t0 1)\n") ≡ no_sheet 6 1
  pub double_space : read (bytes "(put  0 1)\n") ≡ no_sheet 6 1
  pub carriage_return : read (bytes "(put 0 1)\r\n") ≡ no_sheet 6 1
  -- the literals of MIN and MAX, and one past
  pub least_literal : read (bytes "(put 0 -9223372036854775.808)\n") ≡ sheet (act (put 0 (lit MIN)) ∷ [])
  pub greatest_literal : read (bytes "(put 0 9223372036854775.807)\n") ≡ sheet (act (put 0 (lit MAX)) ∷ [])
  pub past_greatest : read (bytes "(put 0 9223372036854775.808)\n") ≡ no_sheet 7 1
  pub minus_zero : read (bytes "(put 15 -0)\n") ≡ sheet (act (put 15 (lit (pos 0))) ∷ [])
  -- put, six neg and (reg 0) are 8 brackets, a seventh neg makes 9
  pub eight_brackets : read (bytes "(put 0 (neg (neg (neg (neg (neg (neg (reg 0))))))))\n") ≡ sheet (act (put 0 (form1 neg (form1 neg (form1 neg (form1 neg (form1 neg (form1 neg (reg 0)))))))) ∷ [])
  pub nine_brackets : read (bytes "(put 0 (neg (neg (neg (neg (neg (neg (neg (reg 0)))))))))\n") ≡ no_sheet 6 1
  -- a literal opens none
  pub eight_with_literal : read (bytes "(put 0 (neg (neg (neg (neg (neg (neg (neg 1))))))))\n") ≡ sheet (act (put 0 (form1 neg (form1 neg (form1 neg (form1 neg (form1 neg (form1 neg (form1 neg (lit (pos 1000)))))))))) ∷ [])
  -- in the second argument as in the first
  pub eight_on_the_right : read (bytes "(put 0 (add 1 (add 1 (add 1 (add 1 (add 1 (add 1 (reg 0))))))))\n") ≡ sheet (act (put 0 (form2 add (lit (pos 1000)) (form2 add (lit (pos 1000)) (form2 add (lit (pos 1000)) (form2 add (lit (pos 1000)) (form2 add (lit (pos 1000)) (form2 add (lit (pos 1000)) (reg 0)))))))) ∷ [])
  pub nine_on_the_right : read (bytes "(put 0 (add 1 (add 1 (add 1 (add 1 (add 1 (add 1 (add 1 (reg 0)))))))))\n") ≡ no_sheet 6 1
  -- every word of a form
  pub words_of_one : read (bytes "(put 0 (neg (abs (not (reg 3)))))\n") ≡ sheet (act (put 0 (form1 neg (form1 abs (form1 not' (reg 3))))) ∷ [])
  pub words_of_two : read (bytes "(put 0 (mul (div 1 2) (rem 3 (lt 4 5))))\n(put 1 (and (ne 1 2) (add 3 4)))\n") ≡ sheet (act (put 0 (form2 mul (form2 div (lit (pos 1000)) (lit (pos 2000))) (form2 rem (lit (pos 3000)) (form2 lt (lit (pos 4000)) (lit (pos 5000)))))) ∷ act (put 1 (form2 and (form2 ne (lit (pos 1000)) (lit (pos 2000))) (form2 add (lit (pos 3000)) (lit (pos 4000))))) ∷ [])
  pub operators : read (bytes "(hold 1 -3 5)\n(put 2 (le (sub 1 2) (or 3 4.25)))\n") ≡ sheet (act (hold 1 (minus 3000) (pos 5000)) ∷ act (put 2 (form2 le (form2 sub (lit (pos 1000)) (lit (pos 2000))) (form2 or (lit (pos 3000)) (lit (pos 4250))))) ∷ [])
  -- line 0, a line without LF and a line past the end are empty
  pub line_zero : line_at (bytes "a\nb") 0 ≡ []
  pub line_one : line_at (bytes "a\nb") 1 ≡ bytes "a"
  pub line_two : line_at (bytes "a\nb") 2 ≡ []
  pub line_three : line_at (bytes "a\nb") 3 ≡ []
  -- a cut keeps its LFs
  pub cut_one : cut (bytes "a\nb\n") 1 ≡ bytes "a\n"
  -- 22 on line 2: every register still has its lent number (02, (vi))
  pub run_stops_lem : run_text (pos 5000 ∷ pos 9000 ∷ replicate (registers - 2) (pos 7)) (bytes "(in 0 0 9)\n(in 1 0 1)\n") ≡ worked 2 (stopped 22 2 (pos 5000 ∷ pos 9000 ∷ replicate (registers - 2) (pos 7)))
  -- what a stop leaves: the state before the line, where a register not yet put has its lent number, and numbers past those of the registers as lent
  pub run_left : run_lent (bytes "(put 0 1)\n(hold 1 0 1)\n") (replicate (registers + 1) (pos 5000)) ≡ pos 1000 ∷ replicate registers (pos 5000)
  -- an `in` takes the lent number
  pub run_in : run_text (pos 5000 ∷ replicate (registers - 1) (pos 7)) (bytes "(in 0 0 9)\n(put 1 (reg 0))\n") ≡ worked 2 (done (pos 5000 ∷ pos 5000 ∷ replicate (registers - 2) (pos 7)))
  -- 21 in a run: a register without a line holds its lent number
  pub run_hold : run_text (replicate registers (pos 7)) (bytes "(hold 3 1 2)\n") ≡ worked 1 (stopped 21 1 (replicate registers (pos 7)))
  pub run_held : run_text (replicate registers (pos 7)) (bytes "(hold 3 0.007 2)\n") ≡ worked 1 (done (replicate registers (pos 7)))
  -- 16 lent numbers are enough, and an empty sheet leaves them
  pub run_empty : run_lent [] (replicate 16 (pos 7)) ≡ replicate 16 (pos 7)
  pub run_fifteen : verdict (run_call [] (replicate 15 (pos 7))) ≡ record { number = 3; line = 0; count = 0 }
  -- 528 and 8192 are enough
  pub check_enough : verdict (check_call [] (replicate 528 (pos 7)) (replicate 8192 (pos 7))) ≡ record { number = 0; line = 0; count = 0 }
  -- fewer than 16 lent numbers are 3, before 5
  pub run_short : verdict (run_call (bytes "x") []) ≡ record { number = 3; line = 0; count = 0 }
  pub check_short : verdict (check_call (bytes "x") [] []) ≡ record { number = 3; line = 0; count = 0 }
  -- both arguments are always worked
  pub no_short_cut : run_text (replicate registers (pos 7)) (bytes "(put 0 (and 0 (div 1 0)))\n") ≡ worked 1 (stopped 20 1 (replicate registers (pos 7)))
  pub check_zero : check_text 16 (bytes "(put 0 (and 0 (div 1 0)))\n") ≡ worked 1 (stopped 20 1 start_sets)
  -- the start is [MIN,MAX] and no less (02, (vi))
  pub check_hold : check_text 16 (bytes "(hold 3 -9223372036854775.808 9223372036854775.807)\n(hold 3 0 0)\n") ≡ worked 2 (stopped 21 2 start_sets)
  pub check_below : verdict (check_text 16 (bytes "(hold 3 -9223372036854775.807 9223372036854775.807)\n")) ≡ record { number = 21; line = 1; count = 0 }
  pub check_above : verdict (check_text 16 (bytes "(hold 3 -9223372036854775.808 9223372036854775.806)\n")) ≡ record { number = 21; line = 1; count = 0 }
  -- an `in` gives [LO,HI] in the place of the start
  pub check_in : verdict (check_text 16 (bytes "(in 3 0 1)\n(hold 3 0 1)\n")) ≡ record { number = 0; line = 0; count = 2 }
  -- a divisor that no line has put may be 0
  pub check_dirty : verdict (check_text 16 (bytes "(put 0 (div 1 (reg 3)))\n")) ≡ record { number = 20; line = 1; count = 0 }
  -- put's E reads the state before the line
  pub put_old_state : run_text (replicate registers (pos 7)) (bytes "(put 0 1)\n(put 0 (add (reg 0) 1))\n") ≡ worked 2 (done (pos 2000 ∷ replicate (registers - 1) (pos 7)))
  -- an untouched register holds [MIN,MAX]
  pub untouched_slot : slot (span MIN MAX) ≡ pos 1 ∷ MIN ∷ MAX ∷ replicate 30 (pos 0)
  -- register by register: the count, then 32 for ends
  pub slot_ends : slot (span (pos 5) (pos 7)) ≡ pos 1 ∷ pos 5 ∷ pos 7 ∷ replicate 30 (pos 0)
  pub slots_in_turn : take 3 (drop 33 (layout (span (pos 5) (pos 7) ∷ only (pos 9) ∷ []))) ≡ pos 1 ∷ pos 9 ∷ pos 9 ∷ []
  -- the limit itself is not over it; past it gaps are closed (02, (v))
  pub at_the_limit : settle 1 (only (pos 1)) false ≡ ok (only (pos 1))
  pub over_the_limit : settle 1 (only (pos 1) ++ only (pos 5)) false ≡ ok (span (pos 1) (pos 5))
  pub sixteen_settled : settle interval_limit (intervals (singles 16)) false ≡ ok (intervals (singles 16))
  pub seventeen_settled : settle interval_limit (intervals (singles 17)) false ≡ ok (span (pos 0) (pos 2) ++ intervals (drop 4 (singles 17)))
  -- 20 is judged before closing (02, (iii) and (v))
  pub seventeen_by_zero : settle interval_limit (intervals (singles 17)) true ≡ stop 20
  pub sixteen_by_zero : settle interval_limit (intervals (singles 16)) true ≡ stop 20
  -- the way with 9, which (v) is compared with: past the limit alone, and 20 first
  pub was_sixteen : settle_with_nine interval_limit (intervals (singles 16)) false ≡ ok (intervals (singles 16))
  pub was_seventeen : settle_with_nine interval_limit (intervals (singles 17)) false ≡ stop 9
  pub was_zero_first : settle_with_nine interval_limit (intervals (singles 17)) true ≡ stop 20
  -- so 1/[−1,1], which has two intervals, is 20 under a limit of 1
  pub crowded_division : verdict (check_text 1 (bytes "(in 0 -1 1)\n(put 1 (div 1 (reg 0)))\n")) ≡ record { number = 20; line = 2; count = 0 }
  -- with a limit of 1, (lt (reg 0) 1) is not {0} and {1000} but all from 0 to 1000
  pub closed_form : check_text 1 (bytes "(in 0 0 2)\n(put 1 (lt (reg 0) 1))\n") ≡ worked 2 (done (record { sets = span (pos 0) (pos 2000) ∷ span (pos 0) (pos 1000) ∷ replicate (registers - 2) (span MIN MAX) }))
  -- and its outer form sees the closed set: 0 is in the divisor that has none under a limit of 2
  pub closed_divisor : verdict (check_text 1 (bytes "(in 0 0 2)\n(put 1 (div 1 (sub (lt (reg 0) 1) 0.5)))\n")) ≡ record { number = 20; line = 2; count = 0 }
  pub open_divisor : verdict (check_text 2 (bytes "(in 0 0 2)\n(put 1 (div 1 (sub (lt (reg 0) 1) 0.5)))\n")) ≡ record { number = 0; line = 0; count = 2 }
  -- the register keeps the closed set
  pub closed_hold : verdict (check_text 1 (bytes "(in 0 0 2)\n(put 1 (ne (reg 0) 1))\n(put 1 (sub (reg 1) 0.5))\n(hold 1 -0.5 0.5)\n(put 2 (div 1 (reg 1)))\n")) ≡ record { number = 20; line = 5; count = 0 }
  -- trouble in either argument is the form's
  pub left_zero : verdict (check_text 1 (bytes "(in 0 0 2)\n(put 1 (add (div 1 0) (lt (reg 0) 1)))\n")) ≡ record { number = 20; line = 2; count = 0 }
  pub right_zero : verdict (check_text 1 (bytes "(in 0 0 2)\n(put 1 (add (lt (reg 0) 1) (div 1 0)))\n")) ≡ record { number = 20; line = 2; count = 0 }
  pub inner_zero : verdict (check_text 1 (bytes "(in 0 0 2)\n(put 1 (lt (div 1 (reg 0)) 1))\n")) ≡ record { number = 20; line = 2; count = 0 }
  -- a refusal leaves the lent numbers of the run, and the sets and the work of the check; so does a finding the sets
  pub refused_lent : left_by (pos 7 ∷ []) (refused 5 0) ≡ pos 7 ∷ []
  pub refused_sets : sets_left_by (pos 7 ∷ []) (refused 5 0) ≡ pos 7 ∷ []
  pub refused_work : work_left_by (pos 7 ∷ []) (refused 5 0) ≡ pos 7 ∷ []
  pub finding_sets : sets_left_by (pos 7 ∷ []) (worked 1 (stopped 20 1 start_sets)) ≡ pos 7 ∷ []
  -- a pass and a finding zero just the first 8192 numbers of work
  pub pass_work : drop 8191 (work_left_by (replicate 8193 (pos 7)) (worked 0 (done start_sets))) ≡ pos 0 ∷ pos 7 ∷ []
  pub finding_work : drop 8191 (work_left_by (replicate 8193 (pos 7)) (worked 1 (stopped 20 1 start_sets))) ≡ pos 0 ∷ pos 7 ∷ []
  -- a stop has count 0, a pass number 0 and line 0
  pub stop_count : verdict (worked 3 (stopped 20 2 start_sets)) ≡ record { number = 20; line = 2; count = 0 }
  pub pass_count : verdict (worked 3 (done start_sets)) ≡ record { number = 0; line = 0; count = 3 }
