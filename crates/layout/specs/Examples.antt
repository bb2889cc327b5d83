-- What the definitions come to for a program with two variables and one task.
use Rattle.std.specs.Prelude.{◌≡◌, ℕ, ◌+◌, ◌*◌, true, false, List, [], ◌∷◌, ◌++◌, replicate}
use Rattle.program.specs.declared.check.Scope.{Scope}
use Rattle.layout.specs.declared.store.Store.{Store}
use Rattle.layout.specs.Chains.{chain_words, log_astray, most_entries}
use Rattle.layout.specs.Places.{least_length, log_place, page_end}

abbrev pub two : Scope
two = record { variables = 2; locals = 0; tasks = 1 }

abbrev pub entry : ℕ → ℕ → Store
entry place word = record { place = place; word = word }

-- a memory with a head, a page of zeros and a log
abbrev pub with_log : ℕ → List ℕ → List ℕ
with_log head log = head ∷ replicate 14 0 ++ log

pub record ExamplesHold : Type 0 where
  -- the page's places are those below 15, and the longest log for 48 variables ends where the memory may end
  pub page : page_end 2 ≡ 15
  pub least : least_length 2 ≡ 57
  pub longest : log_place 48 + 3 * most_entries 48 ≡ least_length 48
  -- two entries, of which the second is the page's last place
  pub words : chain_words 15 (entry 3 0 ∷ entry 14 6 ∷ []) ≡ 18 ∷ 3 ∷ 0 ∷ 0 ∷ 14 ∷ 6 ∷ []
  pub whole : log_astray two (with_log 15 (18 ∷ 3 ∷ 0 ∷ 0 ∷ 14 ∷ 6 ∷ [])) ≡ false
  -- the first alone, if it says that it is the last
  pub one_entry : log_astray two (with_log 15 (0 ∷ 3 ∷ 0 ∷ 0 ∷ 3 ∷ 7 ∷ [])) ≡ false
  -- without a commit it does not matter what the log holds
  pub no_commit : log_astray two (with_log 0 (7 ∷ 7 ∷ 7 ∷ [])) ≡ false
  -- ASTRAY: a head that is another place
  pub other_head : log_astray two (with_log 18 (18 ∷ 3 ∷ 0 ∷ 0 ∷ 14 ∷ 6 ∷ [])) ≡ true
  -- an entry that leads elsewhere than behind itself, or back to itself
  pub leads_elsewhere : log_astray two (with_log 15 (19 ∷ 3 ∷ 0 ∷ 0 ∷ 14 ∷ 6 ∷ [])) ≡ true
  pub leads_back : log_astray two (with_log 15 (15 ∷ 3 ∷ 0 ∷ 0 ∷ 14 ∷ 6 ∷ [])) ≡ true
  -- an entry for the head, or for a place outside the page
  pub for_head : log_astray two (with_log 15 (18 ∷ 0 ∷ 0 ∷ 0 ∷ 14 ∷ 6 ∷ [])) ≡ true
  pub outside : log_astray two (with_log 15 (18 ∷ 3 ∷ 0 ∷ 0 ∷ 15 ∷ 6 ∷ [])) ≡ true
  -- a place twice, or a lower one behind a higher
  pub twice : log_astray two (with_log 15 (18 ∷ 14 ∷ 0 ∷ 0 ∷ 14 ∷ 6 ∷ [])) ≡ true
  pub falling : log_astray two (with_log 15 (18 ∷ 14 ∷ 6 ∷ 0 ∷ 3 ∷ 0 ∷ [])) ≡ true
  -- a next task that the program does not have; 16 is a stop
  pub unknown_task : log_astray two (with_log 15 (0 ∷ 3 ∷ 1 ∷ [])) ≡ true
  pub stopped : log_astray two (with_log 15 (0 ∷ 3 ∷ 16 ∷ [])) ≡ false
  pub behind_stop : log_astray two (with_log 15 (0 ∷ 3 ∷ 17 ∷ [])) ≡ true
  -- a record of nine words; it may have eight
  pub nine_words : log_astray two (with_log 15 (0 ∷ 4 ∷ 9 ∷ [])) ≡ true
  pub eight_words : log_astray two (with_log 15 (0 ∷ 4 ∷ 8 ∷ [])) ≡ false
  -- any word may stand at another place
  pub any_word : log_astray two (with_log 15 (0 ∷ 5 ∷ 65535 ∷ [])) ≡ false
