-- What is put among the entries of a log.
use Rattle.std.specs.Prelude.{◌≡◌, ℕ, ◌+◌, ◌≤◌, List, ◌++◌, length}
use Rattle.layout.specs.declared.store.Store.{Store}

-- As many entries as there is room for are put behind those before: more, if they are at most n.
pub record Adds (n : ℕ) (more before after : List Store) : Type 0 where
  pub behind : length before + n ≤ 60 → after ≡ before ++ more
