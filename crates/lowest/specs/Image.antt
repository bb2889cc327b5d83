-- Words that lie in bytes.
use Rattle.std.specs.Prelude.{◌≡◌, ℕ, ◌+◌, ◌*◌, ◌/◌, ◌%◌, ◌<◌, Bool, true, cond, List, map, length, ◌==◌, nat_lt, slice_index, slice_set}
use Rattle.std.specs.List.{range_with_len}

-- the word at place p: byte 2p is its low part, byte 2p + 1 its high part
abbrev pub word_at : List ℕ → ℕ → ℕ
word_at bytes p = slice_index bytes (2 * p) + 256 * slice_index bytes (2 * p + 1)

abbrev pub with_word : List ℕ → ℕ → ℕ → List ℕ
with_word bytes p w = slice_set (slice_set bytes (2 * p) (w % 256)) (2 * p + 1) (w / 256)

-- the bytes once a word is put at a place: its two bytes, and no other; past the last word all stay
abbrev pub put_in : List ℕ → ℕ → ℕ → List ℕ
put_in bytes p w = cond (nat_lt p (length bytes / 2)) (with_word bytes p w) bytes

-- all words; a byte over is no part of one
abbrev pub words_in : List ℕ → List ℕ
words_in bytes = map (word_at bytes) (range_with_len 0 (length bytes / 2))

-- no byte is over
abbrev pub none_over : List ℕ → Bool
none_over bytes = length bytes % 2 == 0

-- each is a byte
abbrev pub EachByte : List ℕ → Type 0
EachByte bytes = (i : ℕ) → slice_index bytes i < 256

-- Bytes with none over are known by their words: what a memory's words are, its bytes are.
abbrev pub WordsTellBytes : Type 0
WordsTellBytes = (xs ys : List ℕ) → none_over xs ≡ true → none_over ys ≡ true → EachByte xs → EachByte ys → words_in xs ≡ words_in ys → xs ≡ ys
