-- The next task by its word.
use Rattle.std.proofs.Common.{◌≡◌, ℕ, ◌<◌, ◌≤◌, ◌%◌, cond, ap, sym, ◌∙◌, lit<, mod-lt, mod-eq_of_lt, subst}
use Rattle.std.proofs.lemmas.Bool.{lt-ltb, le-ltb}
use Rattle.program.proofs.Indices.{same_index}
use Rattle.program.specs.declared.statement.Index.{Index}
use Rattle.program.specs.declared.statement.Next.{Next}
use Rattle.calls.specs.Words.{next_at}

-- the task with the word as its number
pub next_is : (w n : ℕ) (t : Index 16) → t.number ≡ n → n ≡ w → Next.Task t ≡ next_at w
unfolding next_at
next_is w n t d f =
    let e : t.number ≡ w = d ∙ f in
    let k : w < 16 = subst (λ n. n < 16) e t.known in
    let u : Index 16 = record { number = w % 16; known = mod-lt w (lit< tt) } in
    ap Next.Task (same_index t u (e ∙ sym (mod-eq_of_lt k))) ∙ sym (ap (λ b. cond b (Next.Task u) Next.Stopped) (lt-ltb w 16 k))

-- any other word
pub next_stops : (w : ℕ) → 16 ≤ w → Next.Stopped ≡ next_at w
unfolding next_at
next_stops w l = sym (ap (λ b. cond b (Next.Task (record { number = w % 16; known = mod-lt w (lit< tt) })) Next.Stopped) (le-ltb w 16 l))
