-- What touch and meet make, by members, and the laws that make them a kind of facts.
use Rattle.std.proofs.Common.{◌≡◌, ℕ, ◌<◌, Bool, not, ◌&&◌, ◌||◌, sym, ap, ◌∙◌, arith}
use Rattle.std.proofs.Math.Bool.{and_assoc, or_assoc, and_comm, or_comm, and_self, or_self, or-and_distrib_right}
use Rattle.program.specs.declared.statement.Statement.{Statement}
use Rattle.program.specs.Shapes.{operands, targets}
use Rattle.program.specs.Paths.{reads, writes}
use Rattle.facts.specs.declared.touched.Touches.{Touches}
use Rattle.facts.specs.Sets.{has, difference, intersection}
use Rattle.facts.specs.Touched.{meet, read_by, touch, written_to}
use Rattle.facts.specs.Membership.{has_of, has_union, has_intersection, has_difference, same_members}

-- facts with the same members in their sets are one
pub same_parts : (a b : Touches)
    → ((v : ℕ) → v < 48 → has a.written v ≡ has b.written v)
    → ((v : ℕ) → v < 48 → has a.read_first v ≡ has b.read_first v)
    → ((v : ℕ) → v < 48 → has a.logged v ≡ has b.logged v)
    → a ≡ b
same_parts a b p q r =
    let w = same_members a.written b.written p in
    let f = same_members a.read_first b.read_first q in
    let m = same_members a.logged b.logged r in
    λ i. record { written = w i; read_first = f i; logged = m i }

-- the members of the sets

module _ (v : ℕ) (l : v < 48) where
  pub meet_written : (a b : Touches) → has (meet a b).written v ≡ (has a.written v && has b.written v)
  meet_written a b = has_intersection a.written b.written v l

  pub meet_read : (a b : Touches) → has (meet a b).read_first v ≡ (has a.read_first v || has b.read_first v)
  meet_read a b = has_union a.read_first b.read_first v l

  pub meet_logged : (a b : Touches) → has (meet a b).logged v ≡ (has a.logged v || has b.logged v)
  meet_logged a b = has_union a.logged b.logged v l

  reads_has : (s : Statement) → has (read_by (operands s)) v ≡ reads s v
  unfolding read_by
  reads_has s = has_of (reads s) v l

  writes_has : (s : Statement) → has (written_to (targets s)) v ≡ writes s v
  unfolding written_to
  writes_has s = has_of (writes s) v l

  pub touch_written : (s : Statement) (t : Touches) → has (touch s t).written v ≡ (has t.written v || writes s v)
  touch_written s t = has_union t.written (written_to (targets s)) v l ∙ ap (λ x. has t.written v || x) (writes_has s)

  pub touch_read : (s : Statement) (t : Touches) → has (touch s t).read_first v ≡ (has t.read_first v || reads s v && not (has t.written v))
  touch_read s t =
      has_union t.read_first (difference (read_by (operands s)) t.written) v l
      ∙ ap (λ x. has t.read_first v || x) (has_difference (read_by (operands s)) t.written v l ∙ ap (λ x. x && not (has t.written v)) (reads_has s))

  pub touch_logged : (s : Statement) (t : Touches) → has (touch s t).logged v ≡ (has t.logged v || has (touch s t).read_first v && writes s v)
  touch_logged s t =
      has_union t.logged (intersection (touch s t).read_first (written_to (targets s))) v l
      ∙ ap (λ x. has t.logged v || x) (has_intersection (touch s t).read_first (written_to (targets s)) v l ∙ ap (λ x. has (touch s t).read_first v && x) (writes_has s))

-- the laws

pub meet_idempotent : (a : Touches) → meet a a ≡ a
meet_idempotent a =
    same_parts (meet a a) a
    (λ v l. meet_written v l a a ∙ and_self (has a.written v))
    (λ v l. meet_read v l a a ∙ or_self (has a.read_first v))
    (λ v l. meet_logged v l a a ∙ or_self (has a.logged v))

pub meet_commutative : (a b : Touches) → meet a b ≡ meet b a
meet_commutative a b =
    same_parts (meet a b) (meet b a)
    (λ v l. rw (meet_written v l a b, meet_written v l b a) (and_comm (has a.written v) (has b.written v)))
    (λ v l. rw (meet_read v l a b, meet_read v l b a) (or_comm (has a.read_first v) (has b.read_first v)))
    (λ v l. rw (meet_logged v l a b, meet_logged v l b a) (or_comm (has a.logged v) (has b.logged v)))

pub meet_associative : (a b c : Touches) → meet (meet a b) c ≡ meet a (meet b c)
meet_associative a b c =
    same_parts (meet (meet a b) c) (meet a (meet b c))
    (λ v l. simp (meet_written v l) (and_assoc (has a.written v) (has b.written v) (has c.written v)))
    (λ v l. simp (meet_read v l) (or_assoc (has a.read_first v) (has b.read_first v) (has c.read_first v)))
    (λ v l. simp (meet_logged v l) (or_assoc (has a.logged v) (has b.logged v) (has c.logged v)))

-- p and q: read first on either path; x and y: written; d: the statement reads
read_meets : (p q d x y : Bool) → (p || q || d && not (x && y)) ≡ (p || d && not x || (q || d && not y))
read_meets p q d x y = grind arith

-- l and m: logged on either path; p and q: read first; e: the statement writes
logged_meets : (l m p q e : Bool) → (l || m || (p || q) && e) ≡ (l || p && e || (m || q && e))
logged_meets l m p q e = grind arith

touch_meet_read : (v : ℕ) → v < 48 → (s : Statement) (a b : Touches)
    → has (touch s (meet a b)).read_first v ≡ (has (touch s a).read_first v || has (touch s b).read_first v)
touch_meet_read v l s a b =
    simp (touch_read v l, meet_read v l, meet_written v l) (read_meets (has a.read_first v) (has b.read_first v) (reads s v) (has a.written v) (has b.written v))

touch_meet_logged : (v : ℕ) → v < 48 → (s : Statement) (a b : Touches)
    → has (touch s (meet a b)).logged v ≡ (has (touch s a).logged v || has (touch s b).logged v)
touch_meet_logged v l s a b =
    simp (touch_logged v l, meet_logged v l, touch_meet_read v l s a b)
    (logged_meets (has a.logged v) (has b.logged v) (has (touch s a).read_first v) (has (touch s b).read_first v) (writes s v))

pub touch_distributes : (s : Statement) (a b : Touches) → touch s (meet a b) ≡ meet (touch s a) (touch s b)
touch_distributes s a b =
    same_parts (touch s (meet a b)) (meet (touch s a) (touch s b))
    (λ v l. simp (touch_written v l, meet_written v l) (or-and_distrib_right (has a.written v) (has b.written v) (writes s v)))
    (λ v l. touch_meet_read v l s a b ∙ sym (meet_read v l (touch s a) (touch s b)))
    (λ v l. touch_meet_logged v l s a b ∙ sym (meet_logged v l (touch s a) (touch s b)))
