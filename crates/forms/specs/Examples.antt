-- What forms, names, numbers and inputs come to on examples.
use Prim.Native.String.{String}
use Rattle.std.specs.Prelude.{◌≡◌, true, false, List, [], ◌∷◌, Option, Some, None, map, codes}
use Rattle.text.specs.Tokens.{Tok, token_of}
use Rattle.program.specs.declared.statement.Operator.{Operator}
use Rattle.program.specs.declared.statement.Comparison.{Comparison}
use Rattle.forms.specs.Words.{input_of, is_name, number_of, reach_of}
use Rattle.forms.specs.Forms.{Line, variable, local, task, statement, set, emit, skip, next, choose, stop, form_of}

-- a token that is written so, at one place for all
abbrev pub token : String → Tok
token word = token_of (codes word) (record { line = 1; byte = 0 })

-- the form of a line of such tokens
abbrev pub form : List String → Option Line
form words = form_of (map token words)

pub record FormsHold : Type 0 where
  pub a_variable : form ("var" ∷ "set" ∷ "5" ∷ []) ≡ Some (variable (token "set") (token "5"))
  pub a_local : form ("loc" ∷ "t" ∷ []) ≡ Some (local (token "t"))
  pub a_task : form ("task" ∷ "a" ∷ []) ≡ Some (task (token "a"))
  pub a_set : form ("set" ∷ "x" ∷ "1" ∷ "%" ∷ "y" ∷ []) ≡ Some (statement (set (token "x") (token "1") Operator.Remainder (token "y")))
  pub an_emit : form ("emit" ∷ "9x" ∷ []) ≡ Some (statement (emit (token "9x")))
  pub a_skip : form ("skip" ∷ "16" ∷ "a" ∷ "<" ∷ "b" ∷ []) ≡ Some (statement (skip (token "16") (token "a") Comparison.Less (token "b")))
  pub a_next : form ("next" ∷ "7" ∷ []) ≡ Some (statement (next (token "7")))
  pub a_choice : form ("next" ∷ "a" ∷ "in0" ∷ "=" ∷ "0" ∷ "b" ∷ []) ≡ Some (statement (choose (token "a") (token "in0") Comparison.Equal (token "0") (token "b")))
  pub a_stop : form ("stop" ∷ []) ≡ Some (statement stop)
  -- no keyword, another count of tokens, another sign
  pub capitals : form ("STOP" ∷ []) ≡ None
  pub longer_keyword : form ("stops" ∷ []) ≡ None
  pub no_token : form [] ≡ None
  pub emit_alone : form ("emit" ∷ []) ≡ None
  pub stop_and_comment : form ("stop" ∷ "#" ∷ "done" ∷ []) ≡ None
  pub choice_of_one : form ("next" ∷ "a" ∷ "in0" ∷ "=" ∷ "0" ∷ []) ≡ None
  pub too_long : form ("next" ∷ "a" ∷ "in0" ∷ "=" ∷ "0" ∷ "b" ∷ "c" ∷ []) ≡ None
  pub no_operator : form ("set" ∷ "x" ∷ "1" ∷ "*" ∷ "2" ∷ []) ≡ None
  pub no_comparison : form ("skip" ∷ "1" ∷ "a" ∷ ">" ∷ "b" ∷ []) ≡ None

pub record WordsHold : Type 0 where
  pub inputs : map (λ word. input_of (codes word)) ("in0" ∷ "in7" ∷ []) ≡ Some 0 ∷ Some 7 ∷ []
  pub no_inputs : map (λ word. input_of (codes word)) ("in" ∷ "in8" ∷ "in00" ∷ "im0" ∷ "In0" ∷ "" ∷ []) ≡ None ∷ None ∷ None ∷ None ∷ None ∷ None ∷ []
  pub names : map (λ word. is_name (codes word)) ("set" ∷ "in" ∷ "in8" ∷ "in00" ∷ "a2345678901z" ∷ []) ≡ true ∷ true ∷ true ∷ true ∷ true ∷ []
  pub no_names : map (λ word. is_name (codes word)) ("in0" ∷ "in7" ∷ "9x" ∷ "a2345678901yz" ∷ "aB" ∷ "a_b" ∷ "" ∷ []) ≡ false ∷ false ∷ false ∷ false ∷ false ∷ false ∷ false ∷ []
  pub numbers : map (λ word. number_of (codes word)) ("0" ∷ "00007" ∷ "65535" ∷ []) ≡ Some 0 ∷ Some 7 ∷ Some 65535 ∷ []
  pub no_numbers : map (λ word. number_of (codes word)) ("000007" ∷ "65536" ∷ "9x" ∷ "-5" ∷ "" ∷ []) ≡ None ∷ None ∷ None ∷ None ∷ None ∷ []
  pub reaches : map (λ word. reach_of (codes word)) ("1" ∷ "15" ∷ "00015" ∷ []) ≡ Some 1 ∷ Some 15 ∷ Some 15 ∷ []
  pub no_reaches : map (λ word. reach_of (codes word)) ("0" ∷ "16" ∷ "000015" ∷ "x" ∷ []) ≡ None ∷ None ∷ None ∷ None ∷ []
