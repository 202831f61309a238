-- A disk that does not tell what it holds.
use Rattle.std.specs.Prelude.{[]}
use Rattle.law_journal.specs.Disks.{Outlook, IsOutlook}

-- nothing is known of it
abbrev pub unknown : Outlook
unknown = record { tells = ⊥; seen = []; may_leave = λ c. ⊥; moment = 0; left_since = λ t c. ⊥ }

pub unknown_is : IsOutlook unknown
unknown_is = record { stays = λ t. absurd t; counts_now = λ t c le left. left; only_now = λ c left. left }
