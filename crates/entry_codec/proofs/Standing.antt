-- An entry in a format is spelled and fits as its fields do in that format.
use Rattle.std.proofs.Common.{◌≡◌, ℕ, List, [], ◌∷◌, ◌++◌, refl, sym, ap, ◌∙◌, append_assoc}
use Rattle.law_register.specs.Law.Formats.{format_number}
use Rattle.law_register.specs.declared.law.format.EntryFormat.{EntryFormat}
use Rattle.law_register.specs.declared.law.format.EntryFormat.TheVariants.{First, Second}
use Rattle.law_register.specs.declared.register.entry.Entry.{Entry}
use Rattle.entry_codec.specs.Formats.{format_in}
use Rattle.entry_codec.specs.Entries.{entry, fields}

pub standing_spelled : (format : EntryFormat) (e : Entry) → entry.spell (format, e) ≡ format_number format ∷ (fields (format_in format)).spell e
unfolding entry
standing_spelled First e = refl
standing_spelled Second e = refl

pub standing_fits : (format : EntryFormat) (e : Entry) → entry.fits (format, e) ≡ (fields (format_in format)).fits e
unfolding entry
standing_fits First e = refl
standing_fits Second e = refl

pub standing_written : (format : EntryFormat) (e : Entry) (n : ℕ) (old mid new : List ℕ) → n ≡ format_number format → mid ≡ old ++ n ∷ []
    → new ≡ mid ++ (fields (format_in format)).spell e → new ≡ old ++ entry.spell (format, e)
standing_written format e n old mid new number first rest =
    rest
    ∙ ap (λ front. front ++ (fields (format_in format)).spell e) (first ∙ ap (λ k. old ++ k ∷ []) number)
    ∙ append_assoc old (format_number format ∷ []) ((fields (format_in format)).spell e)
    ∙ ap (λ bytes. old ++ bytes) (sym (standing_spelled format e))
