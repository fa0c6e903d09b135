-- What the program prints of a table and a proposal: a line for the verdict, and one for each alarm (document 01, 'The run', the printing
-- program). Each list of bytes is ASCII, and the text stands beside it.
-- Assumes nothing.
use Rattle.std.specs.Prelude.{ℕ, zero, suc, ◌+◌, ◌*◌, Bool, true, false, List, [], ◌∷◌, ◌++◌, ℤ, eqb, Result, Ok, Err}
use Rattle.words.specs.declared.refusal.Rule.{Rule}
use Rattle.words.specs.declared.refusal.Rule.TheVariants.{Length, Size, Share, Node, Point, Use, Reach, Match, Range, Order, Start, Locks, Flow, Write, Disturb, Rest, Room, Walks, Rise, Space, Short}
use Rattle.words.specs.declared.refusal.Refusal.{Refusal}
use Rattle.words.specs.Words.{number_at}
use Rattle.words.specs.Stages.{number_by}
use Rattle.checker.specs.AlarmList.{alarm_words}
use Rattle.checker.specs.Check.{check_of}
use Rattle.rangecheck.specs.Text.{decimal_of}

unfoldable pub pick : Bool → List ℕ → List ℕ → List ℕ
pick true a b = a
pick false a b = b

-- the 'trade's word' of a rule
unfoldable pub trade_word : Rule → List ℕ
trade_word Length = 108 ∷ 101 ∷ 110 ∷ 103 ∷ 116 ∷ 104 ∷ []  -- length
trade_word Size = 115 ∷ 105 ∷ 122 ∷ 101 ∷ []  -- size
trade_word Share = 115 ∷ 104 ∷ 97 ∷ 114 ∷ 101 ∷ []  -- share
trade_word Node = 110 ∷ 111 ∷ 100 ∷ 101 ∷ []  -- node
trade_word Point = 112 ∷ 111 ∷ 105 ∷ 110 ∷ 116 ∷ []  -- point
trade_word Use = 117 ∷ 115 ∷ 101 ∷ []  -- use
trade_word Reach = 114 ∷ 101 ∷ 97 ∷ 99 ∷ 104 ∷ []  -- reach
trade_word Match = 109 ∷ 97 ∷ 116 ∷ 99 ∷ 104 ∷ []  -- match
trade_word Range = 114 ∷ 97 ∷ 110 ∷ 103 ∷ 101 ∷ []  -- range
trade_word Order = 111 ∷ 114 ∷ 100 ∷ 101 ∷ 114 ∷ []  -- order
trade_word Start = 115 ∷ 116 ∷ 97 ∷ 114 ∷ 116 ∷ []  -- start
trade_word Locks = 108 ∷ 111 ∷ 99 ∷ 107 ∷ 115 ∷ []  -- locks
trade_word Flow = 102 ∷ 108 ∷ 111 ∷ 119 ∷ []  -- flow
trade_word Write = 119 ∷ 114 ∷ 105 ∷ 116 ∷ 101 ∷ []  -- write
trade_word Disturb = 100 ∷ 105 ∷ 115 ∷ 116 ∷ 117 ∷ 114 ∷ 98 ∷ []  -- disturb
trade_word Rest = 114 ∷ 101 ∷ 115 ∷ 116 ∷ []  -- rest
trade_word Room = 114 ∷ 111 ∷ 111 ∷ 109 ∷ []  -- room
trade_word Walks = 119 ∷ 97 ∷ 108 ∷ 107 ∷ 115 ∷ []  -- walks
trade_word Rise = 114 ∷ 105 ∷ 115 ∷ 101 ∷ []  -- rise
trade_word Space = 115 ∷ 112 ∷ 97 ∷ 99 ∷ 101 ∷ []  -- space
trade_word Short = 115 ∷ 104 ∷ 111 ∷ 114 ∷ 116 ∷ []  -- short

-- a kind's end of a line: ' overflow' for 1, else ' zero'
unfoldable pub kind_text : ℕ → List ℕ
kind_text kind = pick (eqb kind 1) (32 ∷ 111 ∷ 118 ∷ 101 ∷ 114 ∷ 102 ∷ 108 ∷ 111 ∷ 119 ∷ 10 ∷ []) (32 ∷ 122 ∷ 101 ∷ 114 ∷ 111 ∷ 10 ∷ [])

-- 'node N overflow' or 'node N zero': the line of pair k of the list
unfoldable pub line_of : List ℤ → ℕ → List ℕ
line_of alarms k = (110 ∷ 111 ∷ 100 ∷ 101 ∷ 32 ∷ []) ++ (decimal_of (number_at alarms (2 * k)) ++ kind_text (number_at alarms (2 * k + 1)))

-- the lines of the first n pairs
unfoldable pub lines_of : List ℤ → ℕ → List ℕ
lines_of alarms zero = []
lines_of alarms (suc n) = lines_of alarms n ++ line_of alarms n

-- 'accepted N', and the lines
unfoldable pub accepted_text : List ℤ → ℕ → List ℕ
accepted_text alarms n = ((97 ∷ 99 ∷ 99 ∷ 101 ∷ 112 ∷ 116 ∷ 101 ∷ 100 ∷ 32 ∷ []) ++ (decimal_of n ++ (10 ∷ []))) ++ lines_of alarms n

-- 'refused N WORD at PLACE'
unfoldable pub refused_text : Rule → ℕ → List ℕ
refused_text rule place =
    (114 ∷ 101 ∷ 102 ∷ 117 ∷ 115 ∷ 101 ∷ 100 ∷ 32 ∷ [])
    ++ (decimal_of (number_by rule) ++ ((32 ∷ []) ++ (trade_word rule ++ ((32 ∷ 97 ∷ 116 ∷ 32 ∷ []) ++ (decimal_of place ++ (10 ∷ []))))))

-- the text of a verdict, with the alarm list
unfoldable pub text_of : Result ℕ Refusal → List ℤ → List ℕ
text_of (Ok n) alarms = accepted_text alarms n
text_of (Err e) alarms = refused_text e.rule e.place

-- what is printed of a table and a proposal; the program 'lends 4096 alarm words'
unfoldable pub printed_of : List ℤ → List ℤ → List ℕ
printed_of t w = text_of (check_of t w 4096) (alarm_words t w)
