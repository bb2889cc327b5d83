-- What touched facts come to along paths, and over all paths of a task.
use Rattle.std.proofs.Common.{◌≡◌, ◌↔◌, ℕ, ◌<◌, Bool, true, false, not, ◌&&◌, ◌||◌, List, [], ◌∷◌, map, Some, sym, ap, ◌∙◌, arith}
use Rattle.std.specs.List.{fold, reduce, list_all, list_any}
use Rattle.std.proofs.Math.Bool.{and_assoc, or_assoc, and-true, or-false}
use Rattle.program.specs.declared.statement.Index.{Index}
use Rattle.program.specs.declared.statement.Statement.{Statement}
use Rattle.program.specs.Paths.{paths, reads, writes, written, read_first, Logged, logged_test}
use Rattle.laws.proofs.Paths.{logged_tested}
use Rattle.facts.specs.declared.touched.Touches.{Touches}
use Rattle.facts.specs.Sets.{has, empty}
use Rattle.facts.specs.Joins.{along, over_paths, IsOverPaths}
use Rattle.facts.specs.Touched.{untouched, touch, meet, touched_over}
use Rattle.facts.specs.TouchedLaws.{same_parts, meet_written, meet_read, meet_logged, touch_written, touch_read, touch_logged}
use Rattle.facts.proofs.Sets.{has_of}

-- l, r and w: logged, read first and written before a statement; d and e: the statement reads, and writes; f and o: a first read, and a
-- write, on the path behind it

read_step : (r w d e f : Bool) → (r || d && not w || not (w || e) && f) ≡ (r || not w && (d || not e && f))
read_step r w d e f = grind arith

logged_step : (l r w d e f o : Bool)
    → (l || (r || d && not w) && e || (r || d && not w) && o || not (w || e) && (f && o)) ≡ (l || r && (e || o) || not w && ((d || not e && f) && (e || o)))
logged_step l r w d e f o = grind arith

-- at the end of a path
read_end : (r w : Bool) → r ≡ (r || not w && false)
read_end r w = grind arith

logged_end : (l r w : Bool) → l ≡ (l || r && false || not w && false)
logged_end l r w = grind arith

-- along a path
module _ (v : ℕ) (l : v < 48) where
  written_along : (t : Touches) (π : List Statement) → has (along touch t π).written v ≡ (has t.written v || written π v)
  written_along t [] = sym (or-false (has t.written v))
  written_along t (s ∷ π) =
      written_along (touch s t) π ∙ ap (λ x. x || written π v) (touch_written v l s t) ∙ or_assoc (has t.written v) (writes s v) (written π v)

  read_along : (t : Touches) (π : List Statement) → has (along touch t π).read_first v ≡ (has t.read_first v || not (has t.written v) && read_first π v)
  read_along t [] = read_end (has t.read_first v) (has t.written v)
  read_along t (s ∷ π) =
      read_along (touch s t) π
      ∙ simp (touch_read v l s t, touch_written v l s t) (read_step (has t.read_first v) (has t.written v) (reads s v) (writes s v) (read_first π v))

  logged_along : (t : Touches) (π : List Statement)
      → has (along touch t π).logged v ≡ (has t.logged v || has t.read_first v && written π v || not (has t.written v) && (read_first π v && written π v))
  logged_along t [] = logged_end (has t.logged v) (has t.read_first v) (has t.written v)
  logged_along t (s ∷ π) =
      logged_along (touch s t) π
      ∙ simp (touch_logged v l s t, touch_read v l s t, touch_written v l s t)
      (logged_step (has t.logged v) (has t.read_first v) (has t.written v) (reads s v) (writes s v) (read_first π v) (written π v))

  -- from the start
  none : has untouched.written v ≡ false
  unfolding empty
  none = has_of (λ v. false) v l

  written_on : (π : List Statement) → has (along touch untouched π).written v ≡ written π v
  written_on π = written_along untouched π ∙ ap (λ x. x || written π v) none

  read_on : (π : List Statement) → has (along touch untouched π).read_first v ≡ read_first π v
  read_on π = read_along untouched π ∙ ap (λ x. x || not x && read_first π v) none

  logged_on : (π : List Statement) → has (along touch untouched π).logged v ≡ (read_first π v && written π v)
  logged_on π = logged_along untouched π ∙ ap (λ x. x || x && written π v || not x && (read_first π v && written π v)) none

-- Over paths: a test of facts, and the test of paths that it comes to along each.
module _ (of : Touches → Bool) (on : List Statement → Bool) (same : (π : List Statement) → of (along touch untouched π) ≡ on π) where
  abbrev joined : Touches → List (List Statement) → Touches
  joined a πs = fold meet a (map (along touch untouched) πs)

  joined_from_first : (π : List Statement) (πs : List (List Statement)) (t : Touches)
      → Some t ≡ reduce meet (map (along touch untouched) (π ∷ πs)) → t ≡ joined (along touch untouched π) πs
  joined_from_first π πs t e = cc

  -- a meet passes it where both facts do
  module _ (meets : (a b : Touches) → of (meet a b) ≡ (of a && of b)) where
    after_all : (a : Touches) (πs : List (List Statement)) → of (joined a πs) ≡ (of a && list_all on πs)
    after_all a [] = sym (and-true (of a))
    after_all a (π ∷ πs) = after_all (meet a (along touch untouched π)) πs ∙ simp (meets, same) (and_assoc (of a) (on π) (list_all on πs))

    on_all : (πs : List (List Statement)) (t : Touches) → Some t ≡ reduce meet (map (along touch untouched) πs) → of t ≡ list_all on πs
    on_all [] t e = cc
    on_all (π ∷ πs) t e = ap of (joined_from_first π πs t e) ∙ after_all (along touch untouched π) πs ∙ ap (λ x. x && list_all on πs) (same π)

  -- a meet passes it where either fact does
  module _ (meets : (a b : Touches) → of (meet a b) ≡ (of a || of b)) where
    after_any : (a : Touches) (πs : List (List Statement)) → of (joined a πs) ≡ (of a || list_any on πs)
    after_any a [] = sym (or-false (of a))
    after_any a (π ∷ πs) = after_any (meet a (along touch untouched π)) πs ∙ simp (meets, same) (or_assoc (of a) (on π) (list_any on πs))

    on_any : (πs : List (List Statement)) (t : Touches) → Some t ≡ reduce meet (map (along touch untouched) πs) → of t ≡ list_any on πs
    on_any [] t e = cc
    on_any (π ∷ πs) t e = ap of (joined_from_first π πs t e) ∙ after_any (along touch untouched π) πs ∙ ap (λ x. x || list_any on πs) (same π)

-- over all paths of a task
module _ (task : List Statement) (t : Touches) (e : Some t ≡ over_paths untouched touch meet task) (v : ℕ) (l : v < 48) where
  written_over : has t.written v ≡ has (touched_over task).written v
  written_over =
      let test : List Statement → Bool = λ π. written π v in
      on_all (λ f. has f.written v) test (written_on v l) (meet_written v l) (paths 0 task) t e ∙ sym (has_of (λ v. list_all (λ π. written π v) (paths 0 task)) v l)

  read_over : has t.read_first v ≡ has (touched_over task).read_first v
  read_over =
      let test : List Statement → Bool = λ π. read_first π v in
      on_any (λ f. has f.read_first v) test (read_on v l) (meet_read v l) (paths 0 task) t e ∙ sym (has_of (λ v. list_any (λ π. read_first π v) (paths 0 task)) v l)

  logged_over : has t.logged v ≡ has (touched_over task).logged v
  logged_over =
      let test : List Statement → Bool = λ π. read_first π v && written π v in
      on_any (λ f. has f.logged v) test (logged_on v l) (meet_logged v l) (paths 0 task) t e ∙ sym (has_of (logged_test task) v l)

-- the join over all paths is the touched fact of the task
pub touched_is : (task : List Statement) (t : Touches) → IsOverPaths untouched touch meet task t → t ≡ touched_over task
touched_is task t e = same_parts t (touched_over task) (written_over task t e) (read_over task t e) (logged_over task t e)

-- what is logged keeps the write-after-read rule
pub rule_kept : (task : List Statement) (v : Index 48) → (has (touched_over task).logged v.number ≡ true) ↔ Logged task v.number
rule_kept task v =
    let test = has_of (logged_test task) v.number v.known in
    let rule = logged_tested task v.number in (λ h. rule.1 (sym test ∙ h), λ h. test ∙ rule.0 h)
