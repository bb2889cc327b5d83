-- What is told of a text's first offence is in the text.
use Rattle.std.proofs.Common.{◌≡◌, ◌≢◌, ℕ, ◌+◌, ◌<◌, Bool, true, false, not, cond, eqb, List, [], ◌∷◌, ◌++◌, length, take, Option, Some, None, Ok, Err, IfSome, refl, sym, ap, ◌∙◌, subst, arith, length-append, append_assoc, ltb, ◌&&◌}
use Rattle.std.specs.Option.{ok_or, option_map, option_or}
use Rattle.std.specs.Result.{result_err}
use Rattle.std.specs.List.{All, AllZip, count_by, list_any, position}
use Rattle.std.proofs.lemmas.List.Elements.{All-filter, All-head, All-tail}
use Rattle.std.proofs.lemmas.List.Quantifiers.{position-Some}
use lib.Seq.{take-append_seam}
use Rattle.program.specs.declared.statement.Operand.{Operand}
use Rattle.program.specs.Sound.{few_emits, task_of}
use Rattle.text.specs.declared.refusal.Place.{Place}
use Rattle.text.specs.declared.refusal.Refusal.{Refusal}
use Rattle.text.specs.Bytes.{is_allowed}
use Rattle.text.specs.Readable.{byte_offence, byte_place, length_offence}
use Rattle.text.specs.Refusals.{told_of}
use Rattle.text.specs.Runs.{IsTokenOf}
use Rattle.text.specs.Tokens.{Tok, word, number, comment, sign as mark, text_of, place_of, first_place, is_skipped, lines_from, lines_of}
use Rattle.text.proofs.Law.{are_lines}
use Rattle.text.proofs.Runs.{place_of_token}
use Rattle.forms.specs.Words.{is_name, number_of}
use Rattle.forms.specs.Forms.{Line, variable, local, task, statement, Slot, key, sign, new_name, first_word, target, operand, reach, task_name, Stands, slots, form_of}
use Rattle.forms.proofs.Slots.{forms_tell}
use Rattle.grammar.specs.Names.{Declared, index_in, is_declared, names_of}
use Rattle.grammar.specs.Reading.{first_of, name_offence, operand_named, reach_written, read_operand, slot_offence, target_named}
use Rattle.grammar.specs.Judging.{Point, allowed, full, is_unfinished, judged, point_of}
use Rattle.rounds.specs.Source.{source_of}
use Rattle.rounds.specs.Rounds.{emits_offence, emits_round, end_offence, first_line, forms_of, is_ending, line_round, name_round, passed_behind, skip_round, slots_of_line, text_offence}
use Rattle.fit.specs.Answers.{IsInText}

some_length : (xs : List ℕ) → xs ≢ [] → 0 < length xs
some_length [] some = absurd (some refl)
some_length (x ∷ xs) some = omega arith

-- What holds of the offences that there may be holds of the one that is found.
module _ (Q : Refusal → Type 0) where
  or_in : (o p : Option Refusal) → IfSome o Q → IfSome p Q → IfSome (option_or o p) Q
  or_in None p h k = k
  or_in (Some r) p h k = h

  if_in : (v : Bool) (o p : Option Refusal) → IfSome o Q → IfSome p Q → IfSome (cond v o p) Q
  if_in true o p h k = h
  if_in false o p h k = k

  none_read : {A : Type 0} (o : Option A) (r : Refusal) → Q r → IfSome (result_err (ok_or o r)) Q
  none_read None r h = h
  none_read (Some x) r h = tt

  none_named : {A : Type 0} (v : Bool) (x : A) (r : Refusal) → Q r → IfSome (result_err (cond v (Ok x) (Err r))) Q
  none_named true x r h = tt
  none_named false x r h = h

  slots_in : (offence : Slot → Option Refusal) (P : Tok → Type 0) → ((s : Slot) (t : Tok) → Stands s t → P t → IfSome (offence s) Q) → (ss : List Slot) (ts : List Tok) → AllZip Stands ss ts → All P ts → IfSome (first_of offence ss) Q
  slots_in offence P each [] ts stand all = tt
  slots_in offence P each (s ∷ ss) [] stand all = absurd stand
  slots_in offence P each (s ∷ ss) (t ∷ ts) stand all = or_in (offence s) (first_of offence ss) (each s t stand.0 (All-head P t ts all)) (slots_in offence P each ss ts stand.1 (All-tail P t ts all))

  lines_in : (round : List Line → List Tok → List Line → Option Refusal) (P : List Tok → Type 0) → ((before : List Line) (line : List Tok) (behind : List Line) → P line → IfSome (round before line behind) Q) → (before : List Line) (ls : List (List Tok)) → All P ls → IfSome (first_line round before ls) Q
  unfolding first_line
  lines_in round P each before [] all = tt
  lines_in round P each before (line ∷ ls) all =
      or_in (round before line (forms_of ls)) (first_line round (before ++ forms_of (line ∷ [])) ls) (each before line (forms_of ls) (All-head P line ls all)) (lines_in round P each (before ++ forms_of (line ∷ [])) ls (All-tail P line ls all))

-- Places of a text's bytes, and refusals that tell one if they tell a line.
module _ (text : List ℕ) where
  abbrev In : Place → Type 0
  In place = 0 < place.line → (place.byte < length text) × (place.line ≡ (byte_place text place.byte).line)

  abbrev Told : Refusal → Type 0
  Told r = In (record { line = (told_of r).line; byte = (told_of r).byte })

  abbrev InLine : List Tok → Type 0
  InLine ts = All (λ t. In (place_of t)) ts

  -- a token's place is that of its first byte, since it has one
  token_in : (t : Tok) → IsTokenOf text t → In (place_of t)
  token_in t k some =
      let place : place_of t ≡ record { line = 1 + count_by (λ b. eqb b 10) k.before; byte = length k.before } = ap place_of k.token ∙ place_of_token k.run _ in
      let parts : text ≡ k.before ++ (k.run ++ k.behind) = k.parts ∙ append_assoc k.before k.run k.behind in
      let long : length text ≡ length k.before + (length k.run + length k.behind) = ap length parts ∙ length-append k.before (k.run ++ k.behind) ∙ ap (λ n. length k.before + n) (length-append k.run k.behind) in
      let front : take (length k.before) text ≡ k.before = ap (take (length k.before)) parts ∙ take-append_seam k.before (k.run ++ k.behind) in
      subst (λ p. (p.byte < length text) × (p.line ≡ (byte_place text p.byte).line)) (sym place)
      (omega (arith, long, some_length k.run k.some), ap (λ l. 1 + count_by (λ b. eqb b 10) l) (sym front))

  lines_told : All InLine (lines_of text)
  lines_told = All-filter (λ line. not (is_skipped line)) InLine (lines_from false 1 0 text) (λ k d h j e i. token_in _ ((are_lines text).tokens k d h j e i))

  first_told : (ts : List Tok) → InLine ts → In (first_place ts)
  first_told [] all some = absurd (omega arith)
  first_told (t ∷ ts) all some = All-head (λ t. In (place_of t)) t ts all some

  -- a slot's token stands where the line's does
  read_in : (t n : Tok) → t ≡ n → In (place_of t) → In (place_of n)
  read_in t n same h = subst (λ t. In (place_of t)) same h

  operand_told : (d : Declared) (t : Tok) → In (place_of t) → IfSome (result_err (read_operand d t)) Told
  operand_told d (number bs p) h = none_read Told (option_map Operand.Number (number_of bs)) (Refusal.Number p) h
  operand_told d (word bs p) h = none_read Told (operand_named d bs) (Refusal.Unknown p) h
  operand_told d (comment bs p) h = none_read Told (operand_named d bs) (Refusal.Unknown p) h
  operand_told d (mark bs p) h = none_read Told (operand_named d bs) (Refusal.Unknown p) h

  slot_told : (d : Declared) (s : Slot) (t : Tok) → Stands s t → In (place_of t) → IfSome (slot_offence d s) Told
  slot_told d (key bs) t stand h = tt
  slot_told d (sign bs) t stand h = tt
  slot_told d (new_name n) t stand h = none_named Told (is_name (text_of n) && not (is_declared d (text_of n))) (text_of n) (Refusal.Name (place_of n)) (read_in t n stand h)
  slot_told d (first_word n) t stand h = none_read Told (number_of (text_of n)) (Refusal.Number (place_of n)) (read_in t n stand h)
  slot_told d (target n) t stand h = none_read Told (target_named d (text_of n)) (Refusal.Unknown (place_of n)) (read_in t n stand h)
  slot_told d (operand n) t stand h = operand_told d n (read_in t n stand h)
  slot_told d (reach n) t stand h = none_read Told (reach_written (text_of n)) (Refusal.Number (place_of n)) (read_in t n stand h)
  slot_told d (task_name n) t stand h = tt

  name_told : (d : Declared) (s : Slot) (t : Tok) → Stands s t → In (place_of t) → IfSome (name_offence d s) Told
  name_told d (key bs) t stand h = tt
  name_told d (sign bs) t stand h = tt
  name_told d (new_name n) t stand h = tt
  name_told d (first_word n) t stand h = tt
  name_told d (target n) t stand h = tt
  name_told d (operand n) t stand h = tt
  name_told d (reach n) t stand h = tt
  name_told d (task_name n) t stand h = none_read Told (index_in d.tasks (text_of n)) (Refusal.Unknown (place_of n)) (read_in t n stand h)

  -- The rounds that look at a line.

  judged_told : (p : Point) (ts : List Tok) → InLine ts → (o : Option Line) → form_of ts ≡ o → IfSome (judged p (first_place ts) o) Told
  judged_told p ts all None is = first_told ts all
  judged_told p ts all (Some line) is =
      let read = first_of (slot_offence p.names) (slots line) in
      if_in Told (allowed p line) (cond (full p line) (Some (Refusal.Limit (first_place ts))) read) (Some (Refusal.Form (first_place ts)))
      (if_in Told (full p line) (Some (Refusal.Limit (first_place ts))) read (first_told ts all) (slots_in Told (slot_offence p.names) (λ t. In (place_of t)) (slot_told p.names) (slots line) ts ((forms_tell ts line).0 is) all))
      (first_told ts all)

  named_told : (d : Declared) (ts : List Tok) → InLine ts → (o : Option Line) → form_of ts ≡ o → IfSome (first_of (name_offence d) (slots_of_line o)) Told
  named_told d ts all None is = tt
  named_told d ts all (Some line) is = slots_in Told (name_offence d) (λ t. In (place_of t)) (name_told d) (slots line) ts ((forms_tell ts line).0 is) all

  skip_told : (before : List Line) (ts : List Tok) (behind : List Line) → InLine ts → IfSome (skip_round before ts behind) Told
  skip_told before ts behind all = if_in Told (list_any is_ending (take (passed_behind (form_of ts)) behind)) (Some (Refusal.Skip (first_place ts))) None (first_told ts all) tt

  emits_told : (whole before : List Line) (place : Place) (o : Option Line) → In place → IfSome (emits_offence whole before place o) Told
  emits_told whole before place None h = tt
  emits_told whole before place (Some (variable n v)) h = tt
  emits_told whole before place (Some (local n)) h = tt
  emits_told whole before place (Some (task n)) h = if_in Told (few_emits (task_of (source_of whole) (length (names_of before).tasks))) None (Some (Refusal.Emits place)) tt h
  emits_told whole before place (Some (statement s)) h = tt

  -- Those that tell no line.

  long_told : IfSome (length_offence text) Told
  long_told = if_in Told (ltb 16384 (length text)) (Some Refusal.TooLong) None (λ some. absurd (omega arith)) tt

  end_told : (size : ℕ) (lines : List Line) → IfSome (end_offence size lines) Told
  end_told size lines = if_in Told (is_unfinished (point_of lines)) (Some (Refusal.Unfinished size)) None (λ some. absurd (omega arith)) tt

  -- All rounds.

  byte_told : (o : Option ℕ) → ((p : ℕ) → o ≡ Some p → p < length text) → IfSome (option_map (λ p. Refusal.Byte (byte_place text p)) o) Told
  byte_told None within = tt
  byte_told (Some p) within = λ some. (within p refl, refl)

  round_told : (round : List Line → List Tok → List Line → Option Refusal) → ((before : List Line) (ts : List Tok) (behind : List Line) → InLine ts → IfSome (round before ts behind) Told) → IfSome (first_line round [] (lines_of text)) Told
  round_told round each = lines_in Told round InLine each [] (lines_of text) lines_told

  rounds_told : IfSome (text_offence text) Told
  unfolding text_offence
  rounds_told =
      let whole = forms_of (lines_of text) in
      let names = names_of whole in
      or_in Told (length_offence text) _ long_told
      (or_in Told (byte_offence text) _ (byte_told (position (λ b. not (is_allowed b)) text) (λ p e. (position-Some (λ b. not (is_allowed b)) text p 0 e).0))
      (or_in Told (first_line line_round [] (lines_of text)) _ (round_told line_round (λ before ts behind all. judged_told (point_of before) ts all (form_of ts) refl))
      (or_in Told (end_offence (length text) whole) _ (end_told (length text) whole)
      (or_in Told (first_line (name_round whole) [] (lines_of text)) _ (round_told (name_round whole) (λ before ts behind all. named_told names ts all (form_of ts) refl))
      (or_in Told (first_line skip_round [] (lines_of text)) _ (round_told skip_round skip_told)
      (or_in Told (first_line (emits_round whole) [] (lines_of text)) None (round_told (emits_round whole) (λ before ts behind all. emits_told whole before (first_place ts) (form_of ts) (first_told ts all))) tt))))))

pub told_in_text : (text : List ℕ) (r : Refusal) → text_offence text ≡ Some r → IsInText text (told_of r)
unfolding IsInText
told_in_text text r is = subst (λ o. IfSome o (Told text)) is (rounds_told text)
