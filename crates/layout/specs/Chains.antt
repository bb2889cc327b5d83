-- The log of a commit: a chain of entries, how it stands in memory, and when what is found there is astray.
use Rattle.std.specs.Prelude.{◌≡◌, ℕ, zero, suc, ◌+◌, ◌<◌, Bool, true, false, not, cond, ◌&&◌, ◌||◌, List, [], ◌∷◌, length, ◌==◌, nat_lt, nat_le, slice_index}
use Rattle.program.specs.declared.check.Scope.{Scope}
use Rattle.layout.specs.declared.store.Store.{Store}
use Rattle.layout.specs.Places.{head_place, length_place, log_place, next_place, page_end}

-- An entry has three words: where the next entry stands, the place, and the word.

-- where the entry behind the one at e stands, or 0 if none is
abbrev pub next_entry : ℕ → List Store → ℕ
next_entry e [] = 0
next_entry e (s ∷ more) = e + 3

-- The words of a chain of entries that stands at e.
unfoldable pub chain_words : ℕ → List Store → List ℕ
chain_words e [] = []
chain_words e (s ∷ more) = next_entry e more ∷ s.place ∷ s.word ∷ chain_words (e + 3) more

-- the first n of the words xs stand in memory from place e on
abbrev pub StandFrom : List ℕ → ℕ → List ℕ → ℕ → Type 0
StandFrom ws e xs n = (j : ℕ) → j < n → slice_index ws (e + j) ≡ slice_index xs j

-- the word is a task's number, or 16 after a stop
abbrev pub next_known : ℕ → ℕ → Bool
next_known tasks w = nat_lt w tasks || w == 16

-- the word may stand at the place: there, next tasks are known, and a record has at most eight words
abbrev pub word_fits : Scope → Store → Bool
word_fits n s = (not (s.place == next_place) || next_known n.tasks s.word) && (not (s.place == length_place) || nat_le s.word 8)

-- An entry behind one for a place `before`: of a higher place on the page, with a word that may stand there.
abbrev pub entry_sound : Scope → ℕ → Store → Bool
entry_sound n before s = (nat_lt before s.place && nat_lt s.place (page_end n.variables)) && word_fits n s

-- the entries rise by place, each of a place on the page and with a word that may stand there
unfoldable pub chain_sound : Scope → ℕ → List Store → Bool
chain_sound n before [] = true
chain_sound n before (s ∷ more) = entry_sound n before s && chain_sound n s.place more

-- A whole chain stands in the log: sound entries, at least one.
pub record HasChain (n : Scope) (ws : List ℕ) (es : List Store) : Type 0 where
  pub some : 0 < length es
  pub sound : chain_sound n head_place es ≡ true
  pub stands : StandFrom ws (log_place n.variables) (chain_words (log_place n.variables) es) (length (chain_words (log_place n.variables) es))

-- the place and word of the entry at e
abbrev pub entry_at : List ℕ → ℕ → Store
entry_at ws e = record { place = slice_index ws (e + 1); word = slice_index ws (e + 2) }

-- The chain from the entry at e on is astray, looked at k entries long; `before` is the place of the entry before it.
unfoldable pub astray : ℕ → Scope → List ℕ → ℕ → ℕ → Bool
astray zero n ws e before = true
astray (suc k) n ws e before =
    not (entry_sound n before (entry_at ws e))
    || cond (slice_index ws e == 0) false (not (slice_index ws e == e + 3) || astray k n ws (e + 3) (entry_at ws e).place)

-- how many entries a chain can have, as their places rise on the page
abbrev pub most_entries : ℕ → ℕ
most_entries V = 12 + V

-- What open looks for: the head is neither 0 nor the log's place, or it is that and the chain is astray.
abbrev pub log_astray : Scope → List ℕ → Bool
log_astray n ws =
    cond (slice_index ws head_place == 0) false
    (not (slice_index ws head_place == log_place n.variables) || astray (most_entries n.variables) n ws (log_place n.variables) head_place)
