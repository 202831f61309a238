-- Fields that are exact: what is read is the spelling of what it gives, and what is spelled is read as what was spelled.
use Rattle.std.proofs.Common.{◌≡◌, ℕ, zero, suc, ◌*◌, ◌^◌, ◌<◌, ◌≤◌, ◌==◌, Bool, true, false, not, ◌&&◌, ◌||◌, if◌then◌else◌, inl, inr, List, [], ◌∷◌, ◌++◌, length, get_or, take, drop, min, Option, Some, None, Result, Ok, Err, refl, sym, ap, subst, ◌∙◌, append_assoc, arith}
use Rattle.std.specs.Prelude.{nat_lt}
use Rattle.std.specs.List.{flat_map, list_all}
use Rattle.std.specs.Int.{Width, w16, w32, w64, byte_len, from_be_bytes, to_be_bytes}
use Rattle.std.proofs.lemmas.Bool.{and_parts, and_from, ltb-false, ltb-true, le-ltb, lt-ltb, eqb-true, eq-eqb}
use Rattle.std.proofs.Math.Nat.{min-eq_left}
use Rattle.std.proofs.lemmas.List.{take_at, drop_at, take-append-drop, length-append, length-take}
use Rattle.std.proofs.lemmas.Nat.{be_bytes_2, be_bytes_4, be_bytes_8, from_be_bytes-to_be_bytes_2, from_be_bytes-to_be_bytes_4, from_be_bytes-to_be_bytes_8}
use Rattle.entry_codec.specs.Reads.{Read, ◌>>=◌}
use Rattle.entry_codec.specs.Fields.{Field, byte_read, byte, chunk_read, chunk, tested, given, pair, made_where, parts_spell, parts_fit, number, nothing, Kind, HeldBy, kind_value, kind_byte, kind_spell, kind_fits, kind_read, told_read, one_of, counted, each_read, each}

-- bytes are below 256
abbrev pub is_byte : ℕ → Bool
is_byte b = nat_lt b 256

abbrev pub AreBytes : List ℕ → Type 0
AreBytes bytes = list_all is_byte bytes ≡ true

pub are_bytes : (bytes : List ℕ) → ((i : ℕ) → get_or bytes i 0 < 256) → AreBytes bytes
are_bytes [] small = refl
are_bytes (b ∷ bs) small = rw (lt-ltb b 256 (small 0), are_bytes bs (λ i. small (suc i))) refl

each_byte : (bytes : List ℕ) → AreBytes bytes → (i : ℕ) → get_or bytes i 0 < 256
each_byte [] are i = omega arith
each_byte (b ∷ bs) are zero = ltb-true b 256 (and_parts (is_byte b) (list_all is_byte bs) are).0
each_byte (b ∷ bs) are (suc i) = each_byte bs (and_parts (is_byte b) (list_all is_byte bs) are).1 i

are-take : (n : ℕ) (bytes : List ℕ) → AreBytes bytes → AreBytes (take n bytes)
are-take zero bytes are = refl
are-take (suc n) [] are = refl
are-take (suc n) (b ∷ bs) are =
    let parts = and_parts (is_byte b) (list_all is_byte bs) are in
    rw (parts.0, are-take n bs parts.1) refl

are-drop : (n : ℕ) (bytes : List ℕ) → AreBytes bytes → AreBytes (drop n bytes)
are-drop zero bytes are = are
are-drop (suc n) [] are = refl
are-drop (suc n) (b ∷ bs) are = are-drop n bs (and_parts (is_byte b) (list_all is_byte bs) are).1

-- what a reading took from the front: a text, and what it says keeps its rules
pub record Taken (bytes text rest : List ℕ) (keeps : Bool) : Type 0 where
  pub parts : bytes ≡ text ++ rest
  pub left : AreBytes rest
  pub fits : keeps ≡ true

-- a field is exact
pub record IsExact {V : Type 0} (f : Field V) : Type 0 where
  pub takes : (bytes : List ℕ) (v : V) (rest : List ℕ) → AreBytes bytes → f.read bytes ≡ Ok (v, rest) → Taken bytes (f.spell v) rest (f.fits v)
  pub again : (v : V) (rest : List ℕ) → f.fits v ≡ true → f.read (f.spell v ++ rest) ≡ Ok (v, rest)

-- what a reading that did not fail gave
abbrev pub done : {A : Type 0} → A → Result A ℕ
done x = Ok x

pub ok_is : {A : Type 0} (x y : A) → done x ≡ done y → x ≡ y
ok_is x y e = cc

-- the value of a step that did not fail
pub step : {A B : Type 0} (r : Result A ℕ) (next : A → Result B ℕ) (y : B) → (r >>= next) ≡ Ok y → (x : A) × (r ≡ Ok x) × (next x ≡ Ok y)
step (Ok x) next y e = (x, refl, e)
step (Err left) next y e = absurd cc

-- a test that did not fail
abbrev pub kept : {A : Type 0} → Bool → ℕ → A → Result A ℕ
kept test start x = if test then Ok x else Err start

pub kept_is : {A : Type 0} (test : Bool) (start : ℕ) (x y : A) → kept test start x ≡ Ok y → (test ≡ true) × (x ≡ y)
kept_is true start x y e = (refl, ok_is x y e)
kept_is false start x y e = absurd cc

abbrev unless : {A : Type 0} → Bool → ℕ → A → Result A ℕ
unless test start x = if test then Err start else Ok x

unless_is : {A : Type 0} (test : Bool) (start : ℕ) (x y : A) → unless test start x ≡ Ok y → (test ≡ false) × (x ≡ y)
unless_is true start x y e = absurd cc
unless_is false start x y e = (refl, ok_is x y e)

-- a byte
byte_takes : (bytes : List ℕ) (v : ℕ) (rest : List ℕ) → AreBytes bytes → byte_read bytes ≡ Ok (v, rest) → Taken bytes (v ∷ []) rest (nat_lt v 256)
byte_takes [] v rest are e = absurd cc
byte_takes (b ∷ bs) v rest are e =
    let parts = and_parts (is_byte b) (list_all is_byte bs) are in
    subst (λ (p : ℕ × List ℕ). Taken (b ∷ bs) (p.0 ∷ []) p.1 (nat_lt p.0 256)) (ok_is (b, bs) (v, rest) e)
    (record { parts = refl; left = parts.1; fits = parts.0 })

pub byte_exact : IsExact byte
byte_exact = record { takes = byte_takes; again = λ v rest fits. refl }

-- so many bytes
abbrev chunk_fits : ℕ → List ℕ → Bool
chunk_fits n t = length t == n && list_all is_byte t

chunk_takes : (n : ℕ) (bytes v rest : List ℕ) → AreBytes bytes → chunk_read n bytes ≡ Ok (v, rest) → Taken bytes v rest (chunk_fits n v)
chunk_takes n bytes v rest are e =
    let g = unless_is (nat_lt (length bytes) n) (length bytes) (take n bytes, drop n bytes) (v, rest) e in
    let long : n ≤ length bytes = ltb-false _ _ g.0 in
    let len : length (take n bytes) ≡ n = omega (arith, length-take n bytes) in
    subst (λ (p : List ℕ × List ℕ). Taken bytes p.0 p.1 (chunk_fits n p.0)) g.1
    (record {
      parts = sym (take-append-drop n bytes);
      left = are-drop n bytes are;
      fits = and_from _ _ (eq-eqb _ _ len) (are-take n bytes are);
    })

chunk_again : (n : ℕ) (v rest : List ℕ) → chunk_fits n v ≡ true → chunk_read n (v ++ rest) ≡ Ok (v, rest)
chunk_again n v rest fits =
    let len : length v ≡ n = eqb-true _ _ (and_parts (length v == n) (list_all is_byte v) fits).0 in
    let long : nat_lt (length (v ++ rest)) n ≡ false = le-ltb _ _ (omega (arith, length-append v rest)) in
    rw (long, take_at v rest n len, drop_at v rest n len) refl

pub chunk_exact : (n : ℕ) → IsExact (chunk n)
chunk_exact n = record { takes = chunk_takes n; again = chunk_again n }

-- nothing
nothing_takes : (bytes : List ℕ) (v : Unit) (rest : List ℕ) → AreBytes bytes → nothing.read bytes ≡ Ok (v, rest) → Taken bytes [] rest true
nothing_takes bytes v rest are e =
    subst (λ (p : Unit {0} × List ℕ). Taken bytes [] p.1 true) (ok_is (tt, bytes) (v, rest) e) (record { parts = refl; left = are; fits = refl })

pub nothing_exact : IsExact nothing
nothing_exact = record { takes = nothing_takes; again = λ v rest fits. refl }

-- one more rule
abbrev then_kept : {V : Type 0} → (V → Bool) → ℕ → V × List ℕ → Read V
then_kept rule start x = kept (rule x.0) start x

tested_takes : {V : Type 0} (rule : V → Bool) (f : Field V) → IsExact f → (bytes : List ℕ) (v : V) (rest : List ℕ) → AreBytes bytes
    → (tested rule f).read bytes ≡ Ok (v, rest) → Taken bytes (f.spell v) rest (rule v && f.fits v)
tested_takes {V} rule f exact bytes v rest are e =
    let s = step (f.read bytes) (then_kept rule (length bytes)) (v, rest) e in
    let k = kept_is (rule s.0.0) (length bytes) s.0 (v, rest) s.2 in
    let t = exact.takes bytes s.0.0 s.0.1 are s.1 in
    subst (λ (p : V × List ℕ). Taken bytes (f.spell p.0) p.1 (rule p.0 && f.fits p.0)) k.1
    (record { parts = t.parts; left = t.left; fits = and_from _ _ k.0 t.fits })

tested_again : {V : Type 0} (rule : V → Bool) (f : Field V) → IsExact f → (v : V) (rest : List ℕ) → (rule v && f.fits v) ≡ true
    → (tested rule f).read (f.spell v ++ rest) ≡ Ok (v, rest)
tested_again rule f exact v rest fits =
    let parts = and_parts (rule v) (f.fits v) fits in
    ap (λ r. r >>= then_kept rule (length (f.spell v ++ rest))) (exact.again v rest parts.1)
    ∙ ap (λ t. kept t (length (f.spell v ++ rest)) (v, rest)) parts.0

pub tested_exact : {V : Type 0} (rule : V → Bool) (f : Field V) → IsExact f → IsExact (tested rule f)
tested_exact rule f exact = record { takes = tested_takes rule f exact; again = tested_again rule f exact }

-- a field, and one that depends on it
abbrev pub paired : {A B : Type 0} → A → B × List ℕ → Read (A × B)
paired a b = Ok ((a, b.0), b.1)

abbrev pub then_next : {A B : Type 0} → (A → Field B) → A × List ℕ → Read (A × B)
then_next next a = (next a.0).read a.1 >>= paired a.0

abbrev given_spell : {A B : Type 0} → Field A → (A → Field B) → A × B → List ℕ
given_spell first next p = first.spell p.0 ++ (next p.0).spell p.1

abbrev given_fits : {A B : Type 0} → Field A → (A → Field B) → A × B → Bool
given_fits first next p = first.fits p.0 && (next p.0).fits p.1

given_takes : {A B : Type 0} (first : Field A) (next : A → Field B) → IsExact first → ((a : A) → IsExact (next a))
    → (bytes : List ℕ) (v : A × B) (rest : List ℕ) → AreBytes bytes → (given first next).read bytes ≡ Ok (v, rest)
    → Taken bytes (given_spell first next v) rest (given_fits first next v)
given_takes {A} {B} first next exact exacts bytes v rest are e =
    let a = step (first.read bytes) (then_next next) (v, rest) e in
    let b = step ((next a.0.0).read a.0.1) (paired a.0.0) (v, rest) a.2 in
    let t = exact.takes bytes a.0.0 a.0.1 are a.1 in
    let u = (exacts a.0.0).takes a.0.1 b.0.0 b.0.1 t.left b.1 in
    subst (λ (p : (A × B) × List ℕ). Taken bytes (given_spell first next p.0) p.1 (given_fits first next p.0)) (ok_is ((a.0.0, b.0.0), b.0.1) (v, rest) b.2)
    (record {
      parts = t.parts ∙ ap (λ x. first.spell a.0.0 ++ x) u.parts ∙ sym (append_assoc (first.spell a.0.0) ((next a.0.0).spell b.0.0) b.0.1);
      left = u.left;
      fits = and_from _ _ t.fits u.fits;
    })

given_again : {A B : Type 0} (first : Field A) (next : A → Field B) → IsExact first → ((a : A) → IsExact (next a))
    → (v : A × B) (rest : List ℕ) → given_fits first next v ≡ true → (given first next).read (given_spell first next v ++ rest) ≡ Ok (v, rest)
given_again first next exact exacts v rest fits =
    let parts = and_parts (first.fits v.0) ((next v.0).fits v.1) fits in
    ap (given first next).read (append_assoc (first.spell v.0) ((next v.0).spell v.1) rest)
    ∙ ap (λ r. r >>= then_next next) (exact.again v.0 ((next v.0).spell v.1 ++ rest) parts.0)
    ∙ ap (λ r. r >>= paired v.0) ((exacts v.0).again v.1 rest parts.1)

pub given_exact : {A B : Type 0} (first : Field A) (next : A → Field B) → IsExact first → ((a : A) → IsExact (next a)) → IsExact (given first next)
given_exact first next exact exacts = record { takes = given_takes first next exact exacts; again = given_again first next exact exacts }

pub pair_exact : {A B : Type 0} (first : Field A) (second : Field B) → IsExact first → IsExact second → IsExact (pair first second)
pair_exact first second p q = given_exact first (λ _. second) p (λ _. q)

-- values that are made of others, and parted into them again
pub record IsMade {A V : Type 0} (rule : V → Bool) (make : A → V) (parts : V → Option A) (f : Field A) : Type 0 where
  pub parted : (a : A) → f.fits a ≡ true → parts (make a) ≡ Some a
  pub ruled : (a : A) → f.fits a ≡ true → rule (make a) ≡ true
  pub whole : (v : V) (a : A) → rule v ≡ true → parts v ≡ Some a → make a ≡ v

abbrev pub makes : {A V : Type 0} → (A → V) → A × List ℕ → Read V
makes make a = Ok (make a.0, a.1)

abbrev made_fits : {A V : Type 0} → (V → Bool) → (V → Option A) → Field A → V → Bool
made_fits rule parts f v = rule v && parts_fit f.fits (parts v)

made_takes : {A V : Type 0} (rule : V → Bool) (make : A → V) (parts : V → Option A) (f : Field A) → IsExact f → IsMade rule make parts f
    → (bytes : List ℕ) (v : V) (rest : List ℕ) → AreBytes bytes → (made_where rule make parts f).read bytes ≡ Ok (v, rest)
    → Taken bytes (parts_spell f.spell (parts v)) rest (made_fits rule parts f v)
made_takes {A} {V} rule make parts f exact is bytes v rest are e =
    let s = step (f.read bytes) (makes make) (v, rest) e in
    let t = exact.takes bytes s.0.0 s.0.1 are s.1 in
    let apart = is.parted s.0.0 t.fits in
    subst (λ (p : V × List ℕ). Taken bytes (parts_spell f.spell (parts p.0)) p.1 (made_fits rule parts f p.0)) (ok_is (make s.0.0, s.0.1) (v, rest) s.2)
    (record {
      parts = t.parts ∙ ap (λ o. parts_spell f.spell o ++ s.0.1) (sym apart);
      left = t.left;
      fits = and_from _ _ (is.ruled s.0.0 t.fits) (ap (parts_fit f.fits) apart ∙ t.fits);
    })

made_again : {A V : Type 0} (rule : V → Bool) (make : A → V) (parts : V → Option A) (f : Field A) → IsExact f → IsMade rule make parts f
    → (v : V) (rest : List ℕ) → made_fits rule parts f v ≡ true
    → (made_where rule make parts f).read (parts_spell f.spell (parts v) ++ rest) ≡ Ok (v, rest)
made_again {A} {V} rule make parts f exact is v rest fits = by (parts v) refl (and_parts (rule v) (parts_fit f.fits (parts v)) fits).1
  where
    by : (o : Option A) → parts v ≡ o → parts_fit f.fits o ≡ true
        → (made_where rule make parts f).read (parts_spell f.spell o ++ rest) ≡ Ok (v, rest)
    by None apart fit = absurd cc
    by (Some a) apart fit =
        ap (λ r. r >>= makes make) (exact.again a rest fit)
        ∙ ap (λ w. makes (λ _. w) (a, rest)) (is.whole v a (and_parts (rule v) (parts_fit f.fits (parts v)) fits).0 apart)

pub made_exact : {A V : Type 0} (rule : V → Bool) (make : A → V) (parts : V → Option A) (f : Field A) → IsExact f → IsMade rule make parts f
    → IsExact (made_where rule make parts f)
made_exact rule make parts f exact is = record { takes = made_takes rule make parts f exact is; again = made_again rule make parts f exact is }

-- numbers
pub record IsWide (w : Width) : Type 0 where
  pub back : (bytes : List ℕ) → length bytes ≡ byte_len w → ((i : ℕ) → get_or bytes i 0 < 256) → to_be_bytes w (from_be_bytes w bytes) ≡ bytes
  pub again : (n : ℕ) → n < 2 ^ (8 * byte_len w) → from_be_bytes w (to_be_bytes w n) ≡ n
  pub below : (bytes : List ℕ) → ((i : ℕ) → get_or bytes i 0 < 256) → from_be_bytes w bytes < 2 ^ (8 * byte_len w)

pub wide16 : IsWide w16
wide16 = record {
  back = λ bytes len fits. be_bytes_2 bytes _ len fits refl;
  again = λ n lt. from_be_bytes-to_be_bytes_2 n lt;
  below = λ bytes fits. omega (arith, fits 0, fits 1);
}

pub wide32 : IsWide w32
wide32 = record {
  back = λ bytes len fits. be_bytes_4 bytes _ len fits refl;
  again = λ n lt. from_be_bytes-to_be_bytes_4 n lt;
  below = λ bytes fits. omega (arith, fits 0, fits 1, fits 2, fits 3);
}

pub wide64 : IsWide w64
wide64 = record {
  back = λ bytes len fits. be_bytes_8 bytes _ len fits refl;
  again = λ n lt. from_be_bytes-to_be_bytes_8 n lt;
  below = λ bytes fits. omega (arith, fits 0, fits 1, fits 2, fits 3, fits 4, fits 5, fits 6, fits 7);
}

abbrev is_below : Width → ℕ → Bool
is_below w n = nat_lt n (2 ^ (8 * byte_len w))

pub some_is : {A : Type 0} (x y : A) → Some x ≡ Some y → x ≡ y
some_is x y e = cc

pub number_exact : (w : Width) → IsWide w → IsExact (number w)
number_exact w wide = made_exact (is_below w) (from_be_bytes w) (λ n. Some (to_be_bytes w n)) (chunk (byte_len w)) (chunk_exact (byte_len w)) (record {
  parted = λ bytes fits. (let parts = and_parts (length bytes == byte_len w) (list_all is_byte bytes) fits in
      ap Some (wide.back bytes (eqb-true _ _ parts.0) (each_byte bytes parts.1)));
  ruled = λ bytes fits. (let parts = and_parts (length bytes == byte_len w) (list_all is_byte bytes) fits in
      lt-ltb _ _ (wide.below bytes (each_byte bytes parts.1)));
  whole = λ n bytes small apart. ap (from_be_bytes w) (sym (some_is (to_be_bytes w n) bytes apart)) ∙ wide.again n (ltb-true _ _ small);
})

-- kinds are exact: their fields are, and a value that is made of what such a field holds is parted into it, at the kind's place
abbrev pub AreExact : {V S : Type 0} (kinds : List (Kind V)) → (V → S) → (HeldBy kinds → S) → Type 0
AreExact [] parts place = Unit {0}
AreExact (one ∷ others) parts place =
    IsExact one.field × ((held : one.Held) → one.field.fits held ≡ true → parts (one.make held) ≡ place (inl held))
    × AreExact others parts (λ held. place (inr held))

-- a byte tells one of the kinds; no byte tells two
abbrev tells : {V : Type 0} → List (Kind V) → ℕ → Bool
tells [] told = false
tells (one ∷ others) told = told == one.byte || tells others told

abbrev pub are_told_apart : {V : Type 0} → List (Kind V) → Bool
are_told_apart [] = true
are_told_apart (one ∷ others) = not (tells others one.byte) && are_told_apart others

-- what was read of a kind that a byte told
record Chosen {V S : Type 0} (kinds : List (Kind V)) (parts : V → S) (place : HeldBy kinds → S) (told : ℕ) (bytes : List ℕ) (v : V) (rest : List ℕ) : Type 0 where
  held : HeldBy kinds
  parted : parts v ≡ place held
  byte : told ≡ kind_byte kinds held
  taken : Taken bytes (kind_spell kinds held) rest (kind_fits kinds held)

chosen_takes : {V S : Type 0} (kinds : List (Kind V)) (parts : V → S) (place : HeldBy kinds → S) → AreExact kinds parts place
    → (told start : ℕ) (bytes : List ℕ) (v : V) (rest : List ℕ) → AreBytes bytes → told_read kinds told start bytes ≡ Ok (v, rest)
    → Chosen kinds parts place told bytes v rest
chosen_takes [] parts place exacts told start bytes v rest are e = absurd cc
chosen_takes {V} (one ∷ others) parts place exacts told start bytes v rest are e =
    by (told == one.byte) refl e (λ later. chosen_takes others parts (λ held. place (inr held)) exacts.2 told start bytes v rest are later)
  where
    by : (t : Bool) → (told == one.byte) ≡ t → (if t then kind_read one bytes else told_read others told start bytes) ≡ Ok (v, rest)
        → (told_read others told start bytes ≡ Ok (v, rest) → Chosen others parts (λ held. place (inr held)) told bytes v rest)
        → Chosen (one ∷ others) parts place told bytes v rest
    by true same read later =
        let s = step (one.field.read bytes) (makes one.make) (v, rest) read in
        let t = exacts.0.takes bytes s.0.0 s.0.1 are s.1 in
        subst (λ (p : V × List ℕ). Chosen (one ∷ others) parts place told bytes p.0 p.1) (ok_is (one.make s.0.0, s.0.1) (v, rest) s.2)
        (record { held = inl s.0.0; parted = exacts.1 s.0.0 t.fits; byte = eqb-true told one.byte same; taken = t })
    by false same read later = let c = later read in record { held = inr c.held; parted = c.parted; byte = c.byte; taken = c.taken }

-- what is spelled is told by its byte, and by no other kind's
or_right : (x y : Bool) → y ≡ true → (x || y) ≡ true
or_right true y e = refl
or_right false y e = e

told_by : {V : Type 0} (kinds : List (Kind V)) (held : HeldBy kinds) → tells kinds (kind_byte kinds held) ≡ true
told_by [] held = absurd held
told_by (one ∷ others) (inl held) = ap (λ t. t || tells others one.byte) (eq-eqb one.byte one.byte refl)
told_by (one ∷ others) (inr held) = or_right (kind_byte others held == one.byte) _ (told_by others held)

not_told : {V : Type 0} (kinds : List (Kind V)) (held : HeldBy kinds) (told : ℕ) → not (tells kinds told) ≡ true → (kind_byte kinds held == told) ≡ false
not_told kinds held told apart = by (kind_byte kinds held == told) refl
  where
    by : (t : Bool) → (kind_byte kinds held == told) ≡ t → (kind_byte kinds held == told) ≡ false
    by true same = absurd (let e : tells kinds told ≡ true = ap (tells kinds) (sym (eqb-true (kind_byte kinds held) told same)) ∙ told_by kinds held in let no : false ≡ true = sym (ap not e) ∙ apart in cc)
    by false same = same

abbrev told_or : {V : Type 0} → Kind V → List (Kind V) → ℕ → ℕ → List ℕ → Bool → Read V
told_or one others told start bytes same = if same then kind_read one bytes else told_read others told start bytes

chosen_again : {V S : Type 0} (kinds : List (Kind V)) (parts : V → S) (place : HeldBy kinds → S) → AreExact kinds parts place → are_told_apart kinds ≡ true
    → (held : HeldBy kinds) (start : ℕ) (rest : List ℕ) → kind_fits kinds held ≡ true
    → told_read kinds (kind_byte kinds held) start (kind_spell kinds held ++ rest) ≡ Ok (kind_value kinds held, rest)
chosen_again [] parts place exacts apart held start rest fits = absurd held
chosen_again (one ∷ others) parts place exacts apart (inl held) start rest fits =
    ap (told_or one others one.byte start (one.field.spell held ++ rest)) (eq-eqb one.byte one.byte refl)
    ∙ ap (λ r. r >>= makes one.make) (exacts.0.again held rest fits)
chosen_again (one ∷ others) parts place exacts apart (inr held) start rest fits =
    let parts_apart = and_parts (not (tells others one.byte)) (are_told_apart others) apart in
    ap (told_or one others (kind_byte others held) start (kind_spell others held ++ rest)) (not_told others held one.byte parts_apart.0)
    ∙ chosen_again others parts (λ held. place (inr held)) exacts.2 parts_apart.1 held start rest fits

one_of_takes : {V : Type 0} (kinds : List (Kind V)) (parts : V → HeldBy kinds) → AreExact kinds parts (λ held. held) → (bytes : List ℕ) (v : V) (rest : List ℕ)
    → AreBytes bytes → (one_of kinds parts).read bytes ≡ Ok (v, rest)
    → Taken bytes (kind_byte kinds (parts v) ∷ kind_spell kinds (parts v)) rest (kind_fits kinds (parts v))
one_of_takes kinds parts exacts [] v rest are e = absurd cc
one_of_takes kinds parts exacts (b ∷ bs) v rest are e =
    let c = chosen_takes kinds parts (λ held. held) exacts b (length (b ∷ bs)) bs v rest (and_parts (is_byte b) (list_all is_byte bs) are).1 e in
    subst (λ held. Taken (b ∷ bs) (kind_byte kinds held ∷ kind_spell kinds held) rest (kind_fits kinds held)) (sym c.parted)
    (record { parts = ap (λ k. k ∷ bs) c.byte ∙ ap (λ x. kind_byte kinds c.held ∷ x) c.taken.parts; left = c.taken.left; fits = c.taken.fits })

pub one_of_exact : {V : Type 0} (kinds : List (Kind V)) (parts : V → HeldBy kinds) → are_told_apart kinds ≡ true
    → ((v : V) → kind_value kinds (parts v) ≡ v) → AreExact kinds parts (λ held. held) → IsExact (one_of kinds parts)
one_of_exact kinds parts apart whole exacts = record {
  takes = one_of_takes kinds parts exacts;
  again = λ v rest fits. chosen_again kinds parts (λ held. held) exacts apart (parts v) (length (kind_byte kinds (parts v) ∷ (kind_spell kinds (parts v) ++ rest))) rest fits
      ∙ ap (λ w. makes (λ _. w) (v, rest)) (whole v);
}

-- values one behind the other
record EachTaken {V : Type 0} (f : Field V) (n : ℕ) (bytes : List ℕ) (vs : List V) (rest : List ℕ) : Type 0 where
  parts : bytes ≡ flat_map f.spell vs ++ rest
  left : AreBytes rest
  all : list_all f.fits vs ≡ true
  count : length vs ≡ n

abbrev pub consed : {V : Type 0} → V → List V × List ℕ → Read (List V)
consed v vs = Ok (v ∷ vs.0, vs.1)

abbrev pub then_each : {V : Type 0} → Field V → ℕ → V × List ℕ → Read (List V)
then_each f n v = each_read f.read n v.1 >>= consed v.0

each_takes : {V : Type 0} (f : Field V) → IsExact f → (n : ℕ) (bytes : List ℕ) (vs : List V) (rest : List ℕ) → AreBytes bytes
    → each_read f.read n bytes ≡ Ok (vs, rest) → EachTaken f n bytes vs rest
each_takes {V} f exact zero bytes vs rest are e =
    subst (λ (p : List V × List ℕ). EachTaken f zero bytes p.0 p.1) (ok_is ([], bytes) (vs, rest) e)
    (record { parts = refl; left = are; all = refl; count = refl })
each_takes {V} f exact (suc n) bytes vs rest are e =
    let a = step (f.read bytes) (then_each f n) (vs, rest) e in
    let b = step (each_read f.read n a.0.1) (consed a.0.0) (vs, rest) a.2 in
    let t = exact.takes bytes a.0.0 a.0.1 are a.1 in
    let u = each_takes f exact n a.0.1 b.0.0 b.0.1 t.left b.1 in
    subst (λ (p : List V × List ℕ). EachTaken f (suc n) bytes p.0 p.1) (ok_is (a.0.0 ∷ b.0.0, b.0.1) (vs, rest) b.2)
    (record {
      parts = t.parts ∙ ap (λ x. f.spell a.0.0 ++ x) u.parts ∙ sym (append_assoc (f.spell a.0.0) (flat_map f.spell b.0.0) b.0.1);
      left = u.left;
      all = and_from _ _ t.fits u.all;
      count = ap suc u.count;
    })

each_again : {V : Type 0} (f : Field V) → IsExact f → (vs : List V) (rest : List ℕ) → list_all f.fits vs ≡ true
    → each_read f.read (length vs) (flat_map f.spell vs ++ rest) ≡ Ok (vs, rest)
each_again f exact [] rest all = refl
each_again f exact (v ∷ vs) rest all =
    let parts = and_parts (f.fits v) (list_all f.fits vs) all in
    ap (each_read f.read (suc (length vs))) (append_assoc (f.spell v) (flat_map f.spell vs) rest)
    ∙ ap (λ r. r >>= then_each f (length vs)) (exact.again v (flat_map f.spell vs ++ rest) parts.0)
    ∙ ap (λ r. r >>= consed v) (each_again f exact vs rest parts.1)

each_all_takes : {V : Type 0} (f : Field V) → IsExact f → (n : ℕ) (bytes : List ℕ) (vs : List V) (rest : List ℕ) → AreBytes bytes
    → each_read f.read n bytes ≡ Ok (vs, rest) → Taken bytes (flat_map f.spell vs) rest ((each f n).fits vs)
each_all_takes f exact n bytes vs rest are e =
    let t = each_takes f exact n bytes vs rest are e in
    record { parts = t.parts; left = t.left; fits = and_from _ _ (eq-eqb _ _ t.count) t.all }

each_all_again : {V : Type 0} (f : Field V) → IsExact f → (n : ℕ) (vs : List V) (rest : List ℕ) → (each f n).fits vs ≡ true
    → each_read f.read n (flat_map f.spell vs ++ rest) ≡ Ok (vs, rest)
each_all_again f exact n vs rest fits =
    let parts = and_parts (length vs == n) (list_all f.fits vs) fits in
    ap (λ k. each_read f.read k (flat_map f.spell vs ++ rest)) (sym (eqb-true (length vs) n parts.0)) ∙ each_again f exact vs rest parts.1

pub each_exact : {V : Type 0} (f : Field V) → IsExact f → (n : ℕ) → IsExact (each f n)
each_exact f exact n = record { takes = each_all_takes f exact n; again = each_all_again f exact n }

-- items behind their count
abbrev with_items : {X : Type 0} → List X → ℕ → ℕ × List X
with_items xs n = (n, xs)

abbrev count_parts : {X : Type 0} → ℕ → List X → ℕ × List X
count_parts most xs = with_items xs (min (length xs) most)

counted_parted : {X : Type 0} (most : ℕ) (a : ℕ × List X) → length a.1 ≡ a.0 → a.0 ≤ most → count_parts most a.1 ≡ a
counted_parted most a len small =
    let k : min (length a.1) most ≡ a.0 = min-eq_left (subst (λ n. n ≤ most) (sym len) small) ∙ len in
    ap (with_items a.1) k

pub counted_exact : {X : Type 0} (most : ℕ) (count : Field ℕ) (items : ℕ → Field (List X)) → IsExact count → ((n : ℕ) → IsExact (items n))
    → ((n : ℕ) (xs : List X) → (items n).fits xs ≡ true → length xs ≡ n) → ((n : ℕ) → count.fits n ≡ true → n ≤ most)
    → IsExact (counted most count items)
counted_exact {X} most count items exact exacts len small =
    made_exact (λ _. true) (λ p. p.1) (λ xs. Some (count_parts most xs)) (given count items) (given_exact count items exact exacts) (record {
      parted = λ a fits. (let parts = and_parts (count.fits a.0) ((items a.0).fits a.1) fits in
          ap Some (counted_parted most a (len a.0 a.1 parts.1) (small a.0 parts.0)));
      ruled = λ a fits. refl;
      whole = λ v a rule apart. ap (λ (p : ℕ × List X). p.1) (sym (some_is (count_parts most v) a apart));
    })
