-- A level is read as it is spelled, and spelled as it is read.
use Rattle.std.proofs.Common.{◌≡◌, ◌≢◌, ℕ, zero, suc, ◌+◌, ◌<◌, Bool, true, false, ◌==◌, ◌&&◌, ◌||◌, List, [], ◌∷◌, ◌++◌, length, take, drop, get_or, Option, Some, None, refl, sym, ap, ◌∙◌, subst, cond, add-one, arith}
use Rattle.std.specs.Prelude.{Ok, Err, option_map, position, find}
use Rattle.std.specs.List.{list_any, list_all, position_or_len}
use Rattle.std.specs.Str.{bytes_eq}
use Rattle.std.proofs.lemmas.Bool.Decides.{nat_tests, Decides-eqb}
use Rattle.std.proofs.lemmas.Grind.{common_steps}
use Rattle.std.proofs.lemmas.List.{take_at, drop_at, append_assoc, get_or_append_left, get_or_at, length_push}
use Rattle.std.proofs.lemmas.List.Sums.{position_or_len_is}
use Rattle.std.proofs.lemmas.List.Quantifiers.{position-Some}
use Rattle.std.proofs.Math.Seq.{split_at}
use Rattle.std.proofs.lemmas.Slice.Eq.{bytes_eq-Decides}
use Rattle.eid_paths.specs.declared.element.Element.{Element}
use Rattle.eid_paths.specs.declared.element.Element.TheVariants.{Article, Section, Chapter, Paragraph, Subparagraph, Subsection, Clause, Subclause, Alinea, Part, Title, Book, Point, Indent}
use Rattle.eid_paths.specs.declared.level.Level.{Level}
use Rattle.eid_paths.specs.declared.eid_fault.EidRule.TheVariants.{EmptyLevel}
use Rattle.eid_paths.specs.Elements.{element_word, element_of_word, all_elements}
use Rattle.eid_paths.specs.Nums.{is_num_byte, is_num, num_of}
use Rattle.eid_paths.specs.Levels.{level_text, word_and_num, level_with, level_in, level_of}
use Rattle.eid_paths.proofs.PartLaws.{is_whole}

-- no byte of a text is `_`
abbrev pub has_none : List ℕ → Type 0
has_none text = list_any (λ b. b == 95) text ≡ false

word_has_none : (e : Element) → has_none (element_word e)
word_has_none Article = refl
word_has_none Section = refl
word_has_none Chapter = refl
word_has_none Paragraph = refl
word_has_none Subparagraph = refl
word_has_none Subsection = refl
word_has_none Clause = refl
word_has_none Subclause = refl
word_has_none Alinea = refl
word_has_none Part = refl
word_has_none Title = refl
word_has_none Book = refl
word_has_none Point = refl
word_has_none Indent = refl

-- an element is named by its word
word_is_read : (e : Element) → element_of_word (element_word e) ≡ Some e
word_is_read Article = refl
word_is_read Section = refl
word_is_read Chapter = refl
word_is_read Paragraph = refl
word_is_read Subparagraph = refl
word_is_read Subsection = refl
word_is_read Clause = refl
word_is_read Subclause = refl
word_is_read Alinea = refl
word_is_read Part = refl
word_is_read Title = refl
word_is_read Book = refl
word_is_read Point = refl
word_is_read Indent = refl

-- a word in front leaves a text as whole as it is
word_is_whole : (e : Element) (rest : List ℕ) → is_whole (element_word e ++ 95 ∷ rest) ≡ is_whole (95 ∷ rest)
word_is_whole Article rest = refl
word_is_whole Section rest = refl
word_is_whole Chapter rest = refl
word_is_whole Paragraph rest = refl
word_is_whole Subparagraph rest = refl
word_is_whole Subsection rest = refl
word_is_whole Clause rest = refl
word_is_whole Subclause rest = refl
word_is_whole Alinea rest = refl
word_is_whole Part rest = refl
word_is_whole Title rest = refl
word_is_whole Book rest = refl
word_is_whole Point rest = refl
word_is_whole Indent rest = refl

byte_is_none : (b : ℕ) → is_num_byte b ≡ true → (b == 95) ≡ false
byte_is_none b kept =
    let apart : b ≢ 95 = λ same. absurd (let wrong : false ≡ true = ap is_num_byte (sym same) ∙ kept in cc) in
    grind (arith, nat_tests)

pub first_holds : (a b : Bool) → (a && b) ≡ true → a ≡ true
first_holds true b both = refl
first_holds false b both = both

pub second_holds : (a b : Bool) → (a && b) ≡ true → b ≡ true
second_holds true b both = both
second_holds false b both = cc

-- the bytes of a num stand as a whole
bytes_are_whole : (text : List ℕ) → list_all is_num_byte text ≡ true → is_whole text ≡ true
bytes_are_whole [] kept = refl
bytes_are_whole (b ∷ []) kept = rw (byte_is_none b (first_holds (is_num_byte b) true kept)) refl
bytes_are_whole (b ∷ c ∷ text) kept =
    rw (byte_is_none b (first_holds (is_num_byte b) (list_all is_num_byte (c ∷ text)) kept))
    (bytes_are_whole (c ∷ text) (second_holds (is_num_byte b) (list_all is_num_byte (c ∷ text)) kept))

num_is_whole : (num : List ℕ) → is_num num ≡ true → is_whole (95 ∷ num) ≡ true
num_is_whole [] kept = cc
num_is_whole (b ∷ num) kept =
    let bytes = second_holds _ (list_all is_num_byte (b ∷ num)) kept in
    rw (byte_is_none b (first_holds (is_num_byte b) (list_all is_num_byte num) bytes)) (bytes_are_whole (b ∷ num) bytes)

-- no `__` stands in a level, nor does it end in `_`
pub level_is_whole : (e : Element) (num : List ℕ) → is_num num ≡ true → is_whole (level_text e num) ≡ true
level_is_whole e num kept = word_is_whole e num ∙ num_is_whole num kept

either_false : (a b : Bool) → (a || b) ≡ false → a ≡ false
either_false true b none = none
either_false false b none = refl

other_false : (a b : Bool) → (a || b) ≡ false → b ≡ false
other_false true b none = cc
other_false false b none = none

-- what a text without `_` is in front of, is cut right behind it
none_before : (word : List ℕ) → has_none word → (k : ℕ) → k < length word → (get_or word k 0 == 95) ≡ false
none_before [] none k below = absurd (omega arith)
none_before (b ∷ word) none zero below = either_false (b == 95) (list_any (λ x. x == 95) word) none
none_before (b ∷ word) none (suc k) below = none_before word (other_false (b == 95) (list_any (λ x. x == 95) word) none) k (omega arith)

word_ends : (word num : List ℕ) → has_none word → position_or_len (λ b. b == 95) (word ++ 95 ∷ num) ≡ length word
word_ends word num none =
    position_or_len_is (λ b. b == 95) (word ++ 95 ∷ num) (length word) 0 (grind (arith, common_steps))
    (λ k below. let before = none_before word none k below in rw get_or_append_left before) (λ _. rw (get_or_at word 95 num 0 (length word) refl) refl)

word_found : (word num : List ℕ) → has_none word → position (λ b. b == 95) (word ++ 95 ∷ num) ≡ Some (length word)
word_found word num none =
    let ends = word_ends word num none in
    let long : length word < length (word ++ 95 ∷ num) = grind (arith, common_steps) in
    grind (arith, nat_tests)

num_behind : (word num : List ℕ) → drop (length word + 1) (word ++ 95 ∷ num) ≡ num
num_behind word num =
    ap (drop (length word + 1)) (sym (append_assoc word (95 ∷ []) num)) ∙ drop_at (word ++ 95 ∷ []) num (length word + 1) (length_push word 95)

word_and_num_read : (word num : List ℕ) → has_none word → word_and_num (word ++ 95 ∷ num) ≡ Some (word, num)
word_and_num_read word num none =
    ap (option_map (λ i. (take i (word ++ 95 ∷ num), drop (i + 1) (word ++ 95 ∷ num)))) (word_found word num none)
    ∙ ap (λ t. Some (t, drop (length word + 1) (word ++ 95 ∷ num))) (take_at word (95 ∷ num) (length word) refl) ∙ ap (λ t. Some (word, t)) (num_behind word num)

some_byte : (word num : List ℕ) → (length (word ++ 95 ∷ num) == 0) ≡ false
some_byte word num = let long : 0 < length (word ++ 95 ∷ num) = grind (arith, common_steps) in grind (arith, nat_tests)

num_is_read : (num : List ℕ) → is_num num ≡ true → num_of num ≡ Some num
num_is_read num kept = rw kept refl

-- a level is read as it is spelled
pub level_is_read : (e : Element) (num : List ℕ) → is_num num ≡ true → level_of (level_text e num) ≡ Ok (record { element = e; num = num })
level_is_read e num kept =
    rw (some_byte (element_word e) num)
    (ap level_in (word_and_num_read (element_word e) num (word_has_none e)) ∙ ap (λ found. level_with found (num_of num)) (word_is_read e)
    ∙ ap (level_with (Some e)) (num_is_read num kept))

same_halves : (one two : List ℕ × List ℕ) → Some one ≡ Some two → one ≡ two
same_halves one two same = cc

cut_is : (text word num : List ℕ) (i : ℕ) → position (λ b. b == 95) text ≡ Some i → take i text ≡ word → drop (i + 1) text ≡ num → text ≡ word ++ 95 ∷ num
cut_is text word num i found front behind =
    let at = position-Some (λ b. b == 95) text i 0 found in
    let underscore : get_or text i 0 ≡ 95 = (Decides-eqb (get_or text i 0) 95).0 at.1 in
    split_at text i 0 at.0 ∙ ap (λ b. take i text ++ b ∷ drop (suc i) text) underscore ∙ ap (λ n. take i text ++ 95 ∷ drop n text) (sym (add-one i))
    ∙ ap (λ t. take i text ++ 95 ∷ t) behind ∙ ap (λ t. t ++ 95 ∷ num) front

-- the halves of a text at a place
abbrev pub halves_at : List ℕ → ℕ → List ℕ × List ℕ
halves_at text i = (take i text, drop (i + 1) text)

found_is : (text : List ℕ) (halves : List ℕ × List ℕ) (found : Option ℕ) → position (λ b. b == 95) text ≡ found → option_map (halves_at text) found ≡ Some halves → text ≡ halves.0 ++ 95 ∷ halves.1
found_is text halves None same read = cc
found_is text halves (Some i) same read =
    let it = same_halves (halves_at text i) halves read in
    cut_is text halves.0 halves.1 i same (ap (λ (h : List ℕ × List ℕ). h.0) it) (ap (λ (h : List ℕ × List ℕ). h.1) it)

-- what stands around the first `_` of a text, with `_` between it, is the text
word_and_num_is : (text : List ℕ) (halves : List ℕ × List ℕ) → word_and_num text ≡ Some halves → text ≡ halves.0 ++ 95 ∷ halves.1
word_and_num_is text halves cut = found_is text halves (position (λ b. b == 95) text) refl cut

-- what is found among elements has the word
found_has : (es : List Element) (word : List ℕ) (e : Element) → find (λ x. bytes_eq (element_word x) word) es ≡ Some e → element_word e ≡ word
found_has [] word e found = cc
found_has (x ∷ es) word e found =
    elim (bytes_eq (element_word x) word) as (λ t. bytes_eq (element_word x) word ≡ t → cond t (Some x) (find (λ y. bytes_eq (element_word y) word) es) ≡ Some e → element_word e ≡ word) [
      | true ↦ λ same here. let it : x ≡ e = cc in ap element_word (sym it) ∙ (bytes_eq-Decides (element_word x) word).0 same
      | false ↦ λ same later. found_has es word e later
    ] refl found

num_is : (text num : List ℕ) → num_of text ≡ Some num → (text ≡ num) × (is_num num ≡ true)
num_is text num read =
    elim (is_num text) as (λ t. is_num text ≡ t → cond t (Some text) None ≡ Some num → (text ≡ num) × (is_num num ≡ true)) [
      | true ↦ λ kept same. let it : text ≡ num = cc in (it, ap is_num (sym it) ∙ kept)
      | false ↦ λ kept same. cc
    ] refl read

-- a text that is read as a level has its spelling, and its num is one
pub record IsSpelled (text : List ℕ) (level : Level) : Type 0 where
  pub spelled : text ≡ level_text level.element level.num
  pub has_num : is_num level.num ≡ true

with_is : (word behind : List ℕ) (element : Option Element) (num : Option (List ℕ)) (level : Level) → element_of_word word ≡ element → num_of behind ≡ num → level_with element num ≡ Ok level → IsSpelled (word ++ 95 ∷ behind) level
with_is word behind None num level named kept read = cc
with_is word behind (Some e) None level named kept read = cc
with_is word behind (Some e) (Some num) level named kept read =
    let it : record { element = e; num = num } ≡ level = cc in
    let same = num_is behind num kept in
    subst (IsSpelled (word ++ 95 ∷ behind)) it (record {
      spelled = ap (λ w. w ++ 95 ∷ behind) (sym (found_has all_elements word e named)) ∙ ap (λ t. element_word e ++ 95 ∷ t) same.0;
      has_num = same.1;
    })

in_is : (text : List ℕ) (halves : Option (List ℕ × List ℕ)) (level : Level) → word_and_num text ≡ halves → level_in halves ≡ Ok level → IsSpelled text level
in_is text None level cut read = cc
in_is text (Some halves) level cut read =
    let P : List ℕ → Type 0 = λ t. IsSpelled t level in
    subst P (sym (word_and_num_is text halves cut)) (with_is halves.0 halves.1 (element_of_word halves.0) (num_of halves.1) level refl refl read)

pub level_is_spelled : (text : List ℕ) (level : Level) → level_of text ≡ Ok level → IsSpelled text level
level_is_spelled text level read =
    elim (length text == 0) as (λ t. cond t (Err EmptyLevel) (level_in (word_and_num text)) ≡ Ok level → IsSpelled text level) [
      | true ↦ λ same. cc
      | false ↦ λ same. in_is text (word_and_num text) level refl same
    ] read
