-- The rule of three cells, for any unit that can be compared and copied.
use Rattle.std.specs.Prelude.{◌≡◌, Bool, true, false, cond, ◌⊎◌, List, [], ◌∷◌}
use Rattle.cells.specs.declared.triple.Triple.{Triple}
use Rattle.cells.specs.declared.triple.Repair.{Repair}
use Rattle.cells.specs.declared.triple.Repair.TheVariants.{Nothing, ToA, ToC, ToBoth}

-- What three cells read as, by whether B equals C: B if it does, otherwise A.
abbrev pub vote : {T : Type 0} → Bool → Triple T → T
vote bc t = cond bc t.b t.a

-- What mends them, by whether B equals C and whether A equals B.
abbrev pub mending : {T : Type 0} → Bool → Bool → Triple T → Repair T
mending true true t = Nothing
mending true false t = ToA t.b
mending false true t = ToC t.a
mending false false t = ToBoth t.a

-- The two at any comparison, by the answers that it may give.
abbrev pub ReadAs : {T : Type 0} → (T → T → Bool → Type 0) → Triple T → T → Type 0
ReadAs equals t r = (bc : Bool) × equals t.b t.c bc × (r ≡ vote bc t)

abbrev pub MendedBy : {T : Type 0} → (T → T → Bool → Type 0) → Triple T → Repair T → Type 0
MendedBy equals t r = (bc : Bool) × (ab : Bool) × equals t.b t.c bc × equals t.a t.b ab × (r ≡ mending bc ab t)

pub data Cell : Type 0 where
  A : Cell
  B : Cell
  C : Cell

-- a unit to be stored in a cell
pub record To (T : Type 0) : Type 0 where
  pub cell : Cell
  pub unit : T

-- a unit goes to B, then to C
abbrev pub to_both : {T : Type 0} → T → List (To T)
to_both u = record { cell = B; unit = u } ∷ record { cell = C; unit = u } ∷ []

-- a unit goes to A, then to B, then to C
abbrev pub to_all : {T : Type 0} → T → List (To T)
to_all u = record { cell = A; unit = u } ∷ to_both u

-- the stores of a repair
abbrev pub stores : {T : Type 0} → Repair T → List (To T)
stores Nothing = []
stores (ToA u) = record { cell = A; unit = u } ∷ []
stores (ToC u) = record { cell = C; unit = u } ∷ []
stores (ToBoth u) = to_both u

-- what three cells read as, by a test of equality
abbrev pub reads : {T : Type 0} → (T → T → Bool) → Triple T → T
reads same t = vote (same t.b t.c) t

-- the stores that mend them
abbrev pub mends : {T : Type 0} → (T → T → Bool) → Triple T → List (To T)
mends same t = stores (mending (same t.b t.c) (same t.a t.b) t)

-- the cells after a store
abbrev pub put : {T : Type 0} → Cell → T → Triple T → Triple T
put A u t = record { a = u; b = t.b; c = t.c }
put B u t = record { a = t.a; b = u; c = t.c }
put C u t = record { a = t.a; b = t.b; c = u }

-- WHAT IS KEPT THROUGH A CUT
abbrev pub Either : {T : Type 0} → T → T → T → Type 0
Either old new x = (x ≡ old) ⊎ (x ≡ new)

-- all three hold the same
abbrev pub Equal : {T : Type 0} → Triple T → Type 0
Equal t = (t.a ≡ t.b) × (t.b ≡ t.c)

-- three cells on the way from the old unit to the new: they read as one of the two, and can be mended to it
abbrev pub Underway : {T : Type 0} → T → T → Triple T → Type 0
Underway old new t =
    ((t.b ≡ t.c) × Either old new t.b)
    ⊎ (((t.a ≡ t.b) × Either old new t.a)
    ⊎ (Either old new t.a × Either old new t.c))
