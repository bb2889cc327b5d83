-- A line's form is that of its first seven tokens.
use Rattle.std.proofs.Common.{◌≡◌, Option, Some, None, List, [], ◌∷◌, take, refl, sym, ◌∙◌}
use Rattle.text.specs.Tokens.{Tok, text_of, is_skipped}
use Rattle.forms.specs.declared.keyword.Keyword.{Keyword}
use Rattle.forms.specs.Forms.{behind, form_of, keyword_of}

-- no form has seven tokens behind its keyword
behind_long : (k : Option Keyword) (a b c d e f : Tok) (ts : List Tok) → behind k (a ∷ b ∷ c ∷ d ∷ e ∷ f ∷ ts) ≡ None
behind_long None a b c d e f ts = refl
behind_long (Some Keyword.Var) a b c d e f ts = refl
behind_long (Some Keyword.Loc) a b c d e f ts = refl
behind_long (Some Keyword.Task) a b c d e f ts = refl
behind_long (Some Keyword.Set) a b c d e f ts = refl
behind_long (Some Keyword.Emit) a b c d e f ts = refl
behind_long (Some Keyword.Skip) a b c d e f ts = refl
behind_long (Some Keyword.Next) a b c d e f ts = refl
behind_long (Some Keyword.Stop) a b c d e f ts = refl

behind_first_six : (k : Option Keyword) (ts : List Tok) → behind k (take 6 ts) ≡ behind k ts
behind_first_six k [] = refl
behind_first_six k (a ∷ []) = refl
behind_first_six k (a ∷ b ∷ []) = refl
behind_first_six k (a ∷ b ∷ c ∷ []) = refl
behind_first_six k (a ∷ b ∷ c ∷ d ∷ []) = refl
behind_first_six k (a ∷ b ∷ c ∷ d ∷ e ∷ []) = refl
behind_first_six k (a ∷ b ∷ c ∷ d ∷ e ∷ f ∷ ts) = behind_long k a b c d e f [] ∙ sym (behind_long k a b c d e f ts)

pub form_of_first_seven : (ts : List Tok) → form_of (take 7 ts) ≡ form_of ts
unfolding form_of
form_of_first_seven [] = refl
form_of_first_seven (k ∷ ts) = behind_first_six (keyword_of (text_of k)) ts

pub is_skipped_first_seven : (ts : List Tok) → is_skipped (take 7 ts) ≡ is_skipped ts
is_skipped_first_seven [] = refl
is_skipped_first_seven (t ∷ ts) = refl
