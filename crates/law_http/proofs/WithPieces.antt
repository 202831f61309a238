-- The bytes that were read, with a piece that was read behind them.
use Rattle.std.proofs.Common.{◌≡◌, ℕ, ◌<◌, ◌≤◌, List, [], ◌∷◌, ◌++◌, length, take, drop, Some, Result, Ok, Err, refl, sym, ap, subst, ◌∙◌, arith, append_assoc, take-append-drop}
use Rattle.std.proofs.lemmas.List.{append-nil}
use Rattle.law_http.specs.Cutting.{after_empty_lines, head_length}
use Rattle.law_http.specs.Heads.{IsSaid}
use Rattle.law_http.specs.Hearing.{HearsBodyWithPiece, HearsWithPiece, IsBodyHeard, IsFirstHeard, IsHeardBy, IsHeardFrom, with_body}
use Rattle.law_http.specs.Streams.{KeepsWithPiece}
use Rattle.law_http.specs.declared.head.Framing.{Framing}
use Rattle.law_http.specs.declared.heard.Heard.{Heard}
use Rattle.law_http.specs.declared.heard.Heard.TheVariants as heard
use Rattle.law_http.specs.declared.refusal.MessageRefusal.{MessageRefusal}
use Rattle.law_http.proofs.EmptyLines.{after_after, after_append}
use Rattle.law_http.proofs.Kept.{ready_found}
use Rattle.law_http.proofs.Members.{heard_from, whole_heard}

pub same_kept : (old new : List ℕ) → new ≡ old → KeepsWithPiece old new
same_kept old new same = record { piece = []; kept = ap after_empty_lines (same ∙ sym (append-nil old)) }

pub skipped_kept : (old new : List ℕ) → new ≡ after_empty_lines old → KeepsWithPiece old new
skipped_kept old new skipped = record {
  piece = [];
  kept = ap after_empty_lines skipped ∙ after_after old ∙ ap after_empty_lines (sym (append-nil old));
}

-- the bytes stand in front of those that are there
whole_of : (old new : List ℕ) → take (length old) new ≡ old → old ++ drop (length old) new ≡ new
whole_of old new front = ap (λ l. l ++ drop (length old) new) (sym front) ∙ take-append-drop (length old) new

pub front_kept : (old new : List ℕ) → take (length old) new ≡ old → KeepsWithPiece old new
front_kept old new front = record { piece = drop (length old) new; kept = ap after_empty_lines (sym (whole_of old new front)) }

-- behind a piece
behind : (old new piece more : List ℕ) → after_empty_lines new ≡ after_empty_lines (old ++ piece)
    → after_empty_lines (new ++ more) ≡ after_empty_lines (old ++ (piece ++ more))
behind old new piece more kept =
    sym (after_append new more) ∙ ap (λ l. after_empty_lines (l ++ more)) kept
    ∙ after_append (old ++ piece) more ∙ ap after_empty_lines (append_assoc old piece more)

pub then_kept : (old mid new : List ℕ) → KeepsWithPiece old mid → KeepsWithPiece mid new → KeepsWithPiece old new
then_kept old mid new first second = record {
  piece = first.piece ++ second.piece;
  kept = second.kept ∙ behind old mid first.piece second.piece first.kept;
}

-- a head has come, which is refused
pub head_refused : (n : ℕ) (bytes : List ℕ) (refusal : MessageRefusal) → IsSaid (take n bytes) (Err refusal)
    → HearsBodyWithPiece n bytes bytes (heard.Refused refusal)
head_refused n bytes refusal said = record {
  piece = [];
  is_heard = (Err refusal, said, ap (λ (l : List ℕ). (heard.Refused refusal, l)) (sym (append-nil bytes)));
}

-- a head has come, and what came of its body
pub body_with_piece : (n : ℕ) (f : Framing) (h : Heard) (before bytes rest : List ℕ) → IsSaid (take n before) (Ok f)
    → take (length before) bytes ≡ before → (h, rest) ≡ with_body n f bytes → HearsBodyWithPiece n before rest h
body_with_piece n f h before bytes rest said front is = record {
  piece = drop (length before) bytes;
  is_heard = (Ok f, said, is ∙ ap (with_body n f) (sym (whole_of before bytes front)));
}

-- where a whole head has come
pub whole_with_piece : (old bytes rest : List ℕ) (n : ℕ) (h : Heard) → KeepsWithPiece old bytes → after_empty_lines bytes ≡ bytes
    → head_length bytes ≡ Ok n → 0 < n → n ≤ length bytes → HearsBodyWithPiece n bytes rest h → HearsWithPiece old rest h
whole_with_piece old bytes rest n h own begins found some within body =
    let more = body.piece in
    let all = old ++ (own.piece ++ more) in
    let ends : rest ++ [] ≡ rest = append-nil rest in
    let is = subst (λ (l : List ℕ). IsBodyHeard n (take n bytes) (Some (bytes ++ more)) (Some l) h) (sym ends) body.is_heard in
    record {
      piece = own.piece ++ more;
      is_first = subst (λ (l : List ℕ). IsFirstHeard all h l) ends
          (whole_heard (Some all) bytes rest (Some more) (Some []) n h (behind old bytes own.piece more own.kept)
          (ready_found bytes (Some more) n begins found) found some within is);
    }

-- where no head can come
pub refusal_with_piece : (old bytes : List ℕ) (refusal : MessageRefusal) → KeepsWithPiece old bytes → after_empty_lines bytes ≡ bytes
    → head_length bytes ≡ Err refusal → 0 < length bytes → HearsWithPiece old bytes (heard.Refused refusal)
refusal_with_piece old bytes refusal own begins found some =
    let member : Heard × List ℕ = (heard.Refused refusal, bytes) in
    let here = heard_from bytes member some (subst (λ r. IsHeardBy r bytes member) (sym found) refl) in
    record { piece = own.piece; is_first = subst (λ (t : List ℕ). IsHeardFrom t member) (sym begins ∙ own.kept) here }

-- where nothing has come
pub end_with_piece : (old bytes : List ℕ) → KeepsWithPiece old bytes → length bytes ≡ 0 → HearsWithPiece old bytes heard.End
end_with_piece old [] own none = record {
  piece = own.piece;
  is_first = subst (λ (t : List ℕ). IsHeardFrom t (heard.End, [])) own.kept refl;
}
end_with_piece old (b ∷ bytes) own some = absurd (omega (arith, some))
