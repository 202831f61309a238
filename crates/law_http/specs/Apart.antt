-- What is answered to a drafter of what is his, and of what is everyone's.
use Rattle.std.specs.Prelude.{◌≡◌, ℕ, List, Result, Ok, Err, ⊤}
use Rattle.law_register.specs.Answer.Previews.{own_entries}
use Rattle.law_register.specs.Register.LawList.{laws}
use Rattle.law_register.specs.declared.register.entry.Entry.{Entry}
use Rattle.law_http.specs.declared.asking.Asking.{Asking}
use Rattle.law_http.specs.declared.asking.Asking.TheVariants as asks
use Rattle.law_http.specs.declared.refusal.RequestRefusal.{RequestRefusal}

-- two lists of entries with the same law and the same entries of a drafter; those of others, between them, don't count
pub record AreAlike (drafter : List ℕ) (one other : List Entry) : Type 0 where
  pub law : laws one ≡ laws other
  pub own : own_entries drafter one ≡ own_entries drafter other

-- what is asked is no command, and a draft or a preview that is asked for is this drafter's
abbrev pub AsksOwn : List ℕ → Result Asking RequestRefusal → Type 0
AsksOwn drafter (Err refusal) = ⊤
AsksOwn drafter (Ok asks.Front) = ⊤
AsksOwn drafter (Ok (asks.Text text)) = ⊤
AsksOwn drafter (Ok (asks.Preview preview)) = preview.drafter ≡ drafter
AsksOwn drafter (Ok (asks.Draft other)) = other ≡ drafter
AsksOwn drafter (Ok (asks.Command asked)) = ⊥
