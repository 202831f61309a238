-- Fields, of which a format is made: each says once how its values are spelled, how they are read, and which values it has. Those
-- of larger things are made of smaller ones.
use Rattle.std.specs.Prelude.{ℕ, zero, suc, ◌^◌, ◌*◌, ◌==◌, nat_lt, min, Bool, true, false, ◌&&◌, ◌⊎◌, List, [], ◌∷◌, ◌++◌, length, take, drop, Option, Some, None, Ok, Err, if◌then◌else◌}
use Rattle.std.proofs.Common.{inl, inr}
use Rattle.std.specs.List.{flat_map, list_all}
use Rattle.std.specs.Int.{Width, byte_len, from_be_bytes, to_be_bytes}
use Rattle.entry_codec.specs.Reads.{Read, ◌>>=◌}

-- how a value is spelled, what bytes say, and whether a value keeps the rules of the field and can be counted by it
pub record Field (V : Type 0) : Type 0 where
  pub spell : V → List ℕ
  pub read : List ℕ → Read V
  pub fits : V → Bool

-- a number of one byte
abbrev pub byte_read : List ℕ → Read ℕ
byte_read [] = Err 0
byte_read (b ∷ bytes) = Ok (b, bytes)

abbrev pub byte : Field ℕ
byte = record { spell = λ b. b ∷ []; read = byte_read; fits = λ b. nat_lt b 256 }

-- so many bytes
abbrev pub chunk_read : ℕ → List ℕ → Read (List ℕ)
chunk_read n bytes = if nat_lt (length bytes) n then Err (length bytes) else Ok (take n bytes, drop n bytes)

abbrev pub chunk : ℕ → Field (List ℕ)
chunk n = record { spell = λ t. t; read = chunk_read n; fits = λ t. length t == n && list_all (λ b. nat_lt b 256) t }

-- a field whose values keep one more rule; where one breaks it, the field is broken
abbrev pub tested_read : {V : Type 0} → (V → Bool) → (List ℕ → Read V) → List ℕ → Read V
tested_read rule read bytes = read bytes >>= λ v. if rule v.0 then Ok v else Err (length bytes)

abbrev pub tested : {V : Type 0} → (V → Bool) → Field V → Field V
tested rule field =
    record { spell = field.spell; read = tested_read rule field.read; fits = λ v. rule v && field.fits v }

-- a field, and behind it one that depends on what the first says
abbrev pub given_read : {A B : Type 0} → (List ℕ → Read A) → (A → List ℕ → Read B) → List ℕ → Read (A × B)
given_read first next bytes = first bytes >>= λ a. next a.0 a.1 >>= λ b. Ok ((a.0, b.0), b.1)

abbrev pub given : {A B : Type 0} → Field A → (A → Field B) → Field (A × B)
given first next = record {
  spell = λ p. first.spell p.0 ++ (next p.0).spell p.1;
  read = given_read first.read (λ a. (next a).read);
  fits = λ p. first.fits p.0 && (next p.0).fits p.1;
}

-- two fields
abbrev pub pair : {A B : Type 0} → Field A → Field B → Field (A × B)
pair first second = given first (λ _. second)

-- values that are made of those of a field; `parts` gives of what a value is made, if it is made so
abbrev pub made_read : {A V : Type 0} → (A → V) → (List ℕ → Read A) → List ℕ → Read V
made_read make read bytes = read bytes >>= λ a. Ok (make a.0, a.1)

abbrev pub parts_spell : {A : Type 0} → (A → List ℕ) → Option A → List ℕ
parts_spell spell None = []
parts_spell spell (Some a) = spell a

abbrev pub parts_fit : {A : Type 0} → (A → Bool) → Option A → Bool
parts_fit fits None = false
parts_fit fits (Some a) = fits a

-- the same, of those values alone that keep a rule which what is made keeps
abbrev pub made_where : {A V : Type 0} → (V → Bool) → (A → V) → (V → Option A) → Field A → Field V
made_where rule make parts field = record {
  spell = λ v. parts_spell field.spell (parts v);
  read = made_read make field.read;
  fits = λ v. rule v && parts_fit field.fits (parts v);
}

abbrev pub made : {A V : Type 0} → (A → V) → (V → Option A) → Field A → Field V
made make parts field = made_where (λ _. true) make parts field

-- a number of more bytes, the highest of them first
abbrev pub number : Width → Field ℕ
number w =
    made_where (λ n. nat_lt n (2 ^ (8 * byte_len w))) (from_be_bytes w)
    (λ n. Some (to_be_bytes w n)) (chunk (byte_len w))

-- a value that takes no bytes
abbrev pub nothing : Field Unit
nothing = record { spell = λ _. []; read = λ bytes. Ok (tt, bytes); fits = λ _. true }

-- one kind of a value: the byte that tells it, the field that stands behind that byte, and the value that is made of what the
-- field holds
pub record Kind (V : Type 0) : Type 1 where
  pub Held : Type 0
  pub byte : ℕ
  pub make : Held → V
  pub field : Field Held

abbrev pub kind : {A V : Type 0} → ℕ → (A → V) → Field A → Kind V
kind {A} told make field = record { Held = A; byte = told; make = make; field = field }

-- what the field of one of several kinds holds: either that of the first of them, or that of one of the others
abbrev pub HeldBy : {V : Type 0} → List (Kind V) → Type 0
HeldBy [] = ⊥
HeldBy (one ∷ others) = one.Held ⊎ HeldBy others

-- what the field of the first kind holds, that of the second, and so on
abbrev pub first : {A B : Type 0} → A → A ⊎ B
first a = inl a

abbrev pub second : {A B C : Type 0} → B → A ⊎ B ⊎ C
second b = inr (first b)

abbrev pub third : {A B C D : Type 0} → C → A ⊎ B ⊎ C ⊎ D
third c = inr (second c)

abbrev pub fourth : {A B C D E : Type 0} → D → A ⊎ B ⊎ C ⊎ D ⊎ E
fourth d = inr (third d)

abbrev pub fifth : {A B C D E F : Type 0} → E → A ⊎ B ⊎ C ⊎ D ⊎ E ⊎ F
fifth e = inr (fourth e)

abbrev pub sixth : {A B C D E F G : Type 0} → F → A ⊎ B ⊎ C ⊎ D ⊎ E ⊎ F ⊎ G
sixth f = inr (fifth f)

abbrev pub seventh : {A B C D E F G H : Type 0} → G → A ⊎ B ⊎ C ⊎ D ⊎ E ⊎ F ⊎ G ⊎ H
seventh g = inr (sixth g)

abbrev pub eighth : {A B C D E F G H I : Type 0} → H → A ⊎ B ⊎ C ⊎ D ⊎ E ⊎ F ⊎ G ⊎ H ⊎ I
eighth h = inr (seventh h)

-- the value, the byte that tells its kind, what stands behind that byte, and whether it fits its field
abbrev pub kind_value : {V : Type 0} → (kinds : List (Kind V)) → HeldBy kinds → V
kind_value [] held = absurd held
kind_value (one ∷ others) (inl held) = one.make held
kind_value (one ∷ others) (inr held) = kind_value others held

abbrev pub kind_byte : {V : Type 0} → (kinds : List (Kind V)) → HeldBy kinds → ℕ
kind_byte [] held = absurd held
kind_byte (one ∷ others) (inl held) = one.byte
kind_byte (one ∷ others) (inr held) = kind_byte others held

abbrev pub kind_spell : {V : Type 0} → (kinds : List (Kind V)) → HeldBy kinds → List ℕ
kind_spell [] held = absurd held
kind_spell (one ∷ others) (inl held) = one.field.spell held
kind_spell (one ∷ others) (inr held) = kind_spell others held

abbrev pub kind_fits : {V : Type 0} → (kinds : List (Kind V)) → HeldBy kinds → Bool
kind_fits [] held = absurd held
kind_fits (one ∷ others) (inl held) = one.field.fits held
kind_fits (one ∷ others) (inr held) = kind_fits others held

-- what bytes say of a value of one kind; and of the kind that a byte tells, or else the field that begins with it is broken
abbrev pub kind_read : {V : Type 0} → Kind V → List ℕ → Read V
kind_read one bytes = made_read one.make one.field.read bytes

abbrev pub told_read : {V : Type 0} → List (Kind V) → ℕ → ℕ → List ℕ → Read V
told_read [] told start bytes = Err start
told_read (one ∷ others) told start bytes =
    if told == one.byte then kind_read one bytes else told_read others told start bytes

-- one byte tells of which kind a value is, and behind it stands the field of that kind; `parts` gives of what a value is made
abbrev pub one_of : {V : Type 0} → (kinds : List (Kind V)) → (V → HeldBy kinds) → Field V
one_of kinds parts = record {
  spell = λ v. kind_byte kinds (parts v) ∷ kind_spell kinds (parts v);
  read = λ bytes. byte_read bytes >>= λ k. told_read kinds k.0 (length bytes) k.1;
  fits = λ v. kind_fits kinds (parts v);
}

-- a number of items, and the items that it announces. The count stands at `most` where there are more, which do not fit
abbrev pub counted : {X : Type 0} → ℕ → Field ℕ → (ℕ → Field (List X)) → Field (List X)
counted most count items = made (λ p. p.1) (λ xs. Some (min (length xs) most, xs)) (given count items)

-- so many values, one behind the other
abbrev pub each_read : {V : Type 0} → (List ℕ → Read V) → ℕ → List ℕ → Read (List V)
each_read read zero bytes = Ok ([], bytes)
each_read read (suc n) bytes = read bytes >>= λ v. each_read read n v.1 >>= λ vs. Ok (v.0 ∷ vs.0, vs.1)

abbrev pub each : {V : Type 0} → Field V → ℕ → Field (List V)
each field n = record {
  spell = flat_map field.spell;
  read = each_read field.read n;
  fits = λ vs. length vs == n && list_all field.fits vs;
}
