-- What a whole connection is answered, from what each of its requests is.
use Rattle.std.proofs.Common.{◌≡◌, ◌∙◌, sym, ap, subst, refl, ℕ, ◌+◌, ◌≤◌, Bool, true, false, inl, inr, List, [], ◌∷◌, ◌++◌, map, length, take, drop, Option, None, Some, append_assoc, arith}
use Rattle.std.specs.Prelude.{IsTrue, IsFalse}
use Rattle.std.proofs.lemmas.List.{take-append-drop, take-append-le}
use Rattle.std.proofs.Math.Seq.{drop-append_seam}
use mathlib.Core.List.{IsPrefix}
use Rattle.law_register.proofs.Once.{legal_once}
use Rattle.law_register.specs.Desk.History.{entries_of}
use Rattle.law_register.specs.Register.Verdicts.{is_legal}
use Rattle.law_register.specs.declared.desk.event.Event.{Event}
use Rattle.law_register.specs.declared.desk.event.Event.TheVariants.{Faulted}
use Rattle.law_register.specs.declared.register.entry.Entry.{Entry}
use Rattle.turn_lock.specs.declared.pass.Pass.{Pass}
use Rattle.turn_lock.specs.declared.turns.Turns.{Turns}
use Rattle.law_http.specs.Asking.{asking_of}
use Rattle.law_http.specs.Connections.{AnswersSeen, AreMarked, AreOnce, FitAll, FitsWhereMade, IsAnswered, IsMadeOf, IsWellAnswered, StandsOnceAsked, StaysPass, commands_heard, commands_in, faulted_in, with_faulted}
use Rattle.law_http.specs.Exchanges.{AreAnswered, IsServed}
use Rattle.law_http.specs.Faultless.{reply_on}
use Rattle.law_http.specs.Hearing.{AreHeard}
use Rattle.law_http.specs.Lasting.{AreAcknowledged, HoldsAsked, is_created}
use Rattle.law_http.specs.Responses.{reply_bytes}
use Rattle.law_http.specs.Streaming.{AreHeardFirst, BreaksOff, EndsAs, Exchange, requests_of}
use Rattle.law_http.specs.declared.heard.Heard.{Heard}
use Rattle.law_http.specs.declared.heard.Heard.TheVariants as heard
use Rattle.law_http.specs.declared.heard.Request.{Request}
use Rattle.law_http.specs.declared.response.Response.{Response}
use Rattle.law_http.specs.declared.response.Response.TheVariants.{Made, MemoryFault, KeeperFault}
use Rattle.law_http.specs.declared.streaming.Served.{Served}
use Rattle.law_http.specs.declared.streaming.StreamEnd.{StreamEnd}
use Rattle.law_http.specs.declared.streaming.StreamEnd.TheVariants as ends
use Rattle.law_http.proofs.Answered.{asked_more}
use Rattle.law_http.proofs.Determined.{all_same, one_first}
use Rattle.law_http.proofs.Histories.{entries_begin, none_before, prefix_length, prefix_on, prefix_self}
use Rattle.law_http.proofs.Said.{not_both}

-- what is beyond a beginning
beyond : {A : Type 0} (a b : List A) (p : IsPrefix a b) → drop (length a) b ≡ p.0
beyond a b p = ap (drop (length a)) (sym p.1) ∙ drop-append_seam a p.0

beyond_both : {A : Type 0} (a b c : List A) → IsPrefix a b → IsPrefix b c → drop (length a) c ≡ drop (length a) b ++ drop (length b) c
beyond_both a b c p q =
    beyond a c (p.0 ++ q.0, sym (append_assoc a p.0 q.0) ∙ (ap (λ w. w ++ q.0) p.1 ∙ q.1)) ∙ (λ i. sym (beyond a b p) i ++ sym (beyond b c q) i)

-- marks

marked_behind : (es : List Exchange) (front events : List Event) → AreMarked es events → AreMarked es (front ++ events)
marked_behind [] front events marked = tt
marked_behind (e ∷ es) front events (behind, one, more) = (
  behind,
  record {
    before = front ++ one.before;
    mark = one.mark;
    are = ap (λ l. front ++ l) one.are ∙ sym (append_assoc front one.before (Faulted one.mark ∷ behind));
    is_mark = one.is_mark;
  },
  more,
)

marked_before : (es : List Exchange) (events later : List Event) → AreMarked es events → AreMarked es (events ++ later)
marked_before [] events later marked = tt
marked_before (e ∷ es) events later (behind, one, more) = (
  behind ++ later,
  record {
    before = one.before;
    mark = one.mark;
    are = ap (λ l. l ++ later) one.are ∙ append_assoc one.before (Faulted one.mark ∷ behind) later;
    is_mark = one.is_mark;
  },
  marked_before es behind later more,
)

-- those of one exchange, and behind them those of others
marked_both : (response : Response) (e : Exchange) (es : List Exchange) (events later : List Event) → AreMarked (with_faulted response e []) events → AreMarked es later
    → AreMarked (with_faulted response e es) (events ++ later)
marked_both (Made message closes) e es events later one more = marked_behind es events later more
marked_both MemoryFault e es events later one more = marked_behind es events later more
marked_both (KeeperFault closes) e es events later (behind, one, none) more = (
  behind ++ later,
  record {
    before = one.before;
    mark = one.mark;
    are = ap (λ l. l ++ later) one.are ∙ append_assoc one.before (Faulted one.mark ∷ behind) later;
    is_mark = one.is_mark;
  },
  marked_behind es behind later more,
)

-- first parts of entries

taken_more : (k : ℕ) (a b : List Entry) → IsPrefix a b → k ≤ length a → take k b ≡ take k a
taken_more k a b p within = ap (take k) (sym p.1) ∙ take-append-le k a p.0 within

fits_more : (a b : List Entry) (least lower next : ℕ) (e : Exchange) (response : Response) → IsPrefix a b → lower ≤ least
    → FitsWhereMade a least next e response → FitsWhereMade b lower next e response
fits_more a b least lower next e (Made message closes) p low fits = record {
  k = fits.k;
  not_older = omega (arith, low, fits.not_older);
  not_newer = fits.not_newer;
  within = omega (arith, fits.within, prefix_length a b p);
  said = record {
    day = fits.said.day;
    said = fits.said.said ∙ ap (λ es. reply_bytes (reply_on es fits.said.day e.request.closes (asking_of e.request)))
        (sym (taken_more fits.k a b p (omega (arith, fits.not_newer, fits.within))));
  };
  stands = λ is. subst (HoldsAsked e) (sym (taken_more next a b p fits.within)) (fits.stands is);
}
fits_more a b least lower next e MemoryFault p low fits = tt
fits_more a b least lower next e (KeeperFault closes) p low fits = tt

all_fit_more : (a b : List Entry) (least lower : ℕ) (es : List Exchange) → IsPrefix a b → lower ≤ least → FitAll a least es → FitAll b lower es
all_fit_more a b least lower [] p low fit = tt
all_fit_more a b least lower (e ∷ es) p low (next, after, one, more) = (
  next,
  omega (arith, low, after),
  fits_more a b least lower next e e.response p low one,
  all_fit_more a b next next es p (omega arith) more,
)

-- what is acknowledged

never : {A : Type 0} → false ≡ true → A
never is = absurd (cc)

fits_holds : (entries : List Entry) (least next : ℕ) (e : Exchange) (response : Response) → FitsWhereMade entries least next e response
    → e.response ≡ response → IsTrue (is_created e.response) → HoldsAsked e entries
fits_holds entries least next e (Made message closes) fits is created =
    asked_more e (take next entries) entries (drop next entries, sym (take-append-drop next entries)) (fits.stands created)
fits_holds entries least next e MemoryFault fits is created = never (sym (ap is_created is) ∙ created)
fits_holds entries least next e (KeeperFault closes) fits is created = never (sym (ap is_created is) ∙ created)

all_hold : (entries : List Entry) (least : ℕ) (es : List Exchange) → FitAll entries least es → AreAcknowledged entries es
all_hold entries least [] fit = tt
all_hold entries least (e ∷ es) (next, after, one, more) =
    ((λ created. fits_holds entries least next e e.response one refl created), all_hold entries next es more)

asked_once : (entries : List Entry) (e : Exchange) → is_legal entries ≡ true → HoldsAsked e entries → StandsOnceAsked e entries
asked_once entries e legal (asked, is, holds) = (
  asked,
  is,
  record {
    stands = holds;
    once = λ i j one other at there mine his.
        legal_once entries legal i j one other at there (mine.0 ∙ sym his.0) (mine.1 ∙ sym his.1);
  },
)

all_once : (entries : List Entry) (es : List Exchange) → is_legal entries ≡ true → AreAcknowledged entries es → AreOnce entries es
all_once entries [] legal all = tt
all_once entries (e ∷ es) legal (first, rest) = ((λ created. asked_once entries e legal (first created)), all_once entries es legal rest)

-- request by request

abbrev commands_of : List Request → ℕ
commands_of [] = 0
commands_of (request ∷ requests) = commands_in (asking_of request) + commands_of requests

record AreSeen (es : List Exchange) (seen later : List Event) (made now : ℕ) : Type 0 where
  pub grows : IsPrefix seen later
  pub legal : is_legal (entries_of seen) ≡ true → is_legal (entries_of later) ≡ true
  pub fit : FitAll (entries_of later) (length (entries_of seen)) es
  pub marked : AreMarked (faulted_in es) (drop (length seen) later)
  pub makes : IsMadeOf (commands_of (requests_of es)) later made now

none_seen : (seen : List Event) (made : ℕ) → AreSeen [] seen seen made made
none_seen seen made = record {
  grows = prefix_self seen;
  legal = λ legal. legal;
  fit = tt;
  marked = tt;
  makes = record { most = omega arith; unmarked = λ none. omega arith };
}

one_more_seen : (e : Exchange) (es : List Exchange) (seen mid later : List Event) (made between now : ℕ)
    → IsAnswered e.request seen mid made between e.response → AreSeen es mid later between now → AreSeen (e ∷ es) seen later made now
one_more_seen e es seen mid later made between now one more =
    let entries = entries_begin mid later more.grows in record {
      grows = prefix_on seen mid later one.grows more.grows;
      legal = λ before. more.legal (one.legal before);
      fit = (
        length (entries_of mid),
        prefix_length (entries_of seen) (entries_of mid) (entries_begin seen mid one.grows),
        fits_more (entries_of mid) (entries_of later) (length (entries_of seen)) (length (entries_of seen)) (length (entries_of mid)) e e.response entries (omega arith) one.fits,
        more.fit,
      );
      marked = subst (AreMarked (faulted_in (e ∷ es))) (sym (beyond_both seen mid later one.grows more.grows))
          (marked_both e.response e (faulted_in es) (drop (length seen) mid) (drop (length mid) later) one.marked more.marked);
      makes = record {
        most = omega (arith, one.makes.most, more.makes.most);
        unmarked = λ none. omega (arith, one.makes.unmarked (none_before mid later more.grows none), more.makes.unmarked none);
      };
    }

seen_by_turns : (es : List Exchange) (old new : List Event × ℕ) → AreAnswered AnswersSeen es old new → AreSeen es old.0 new.0 old.1 new.1
seen_by_turns [] old new same =
    subst (λ (p : List Event × ℕ). AreSeen [] old.0 p.0 old.1 p.1) (sym same) (none_seen old.0 old.1)
seen_by_turns (e ∷ es) old new (mid, one, more) =
    one_more_seen e es old.0 mid.0 new.0 old.1 mid.1 new.1 one (seen_by_turns es mid new more)

-- commands

commands_said : (requests : List Request) (more : List Heard) → commands_of requests ≤ commands_heard (map heard.Request requests ++ more)
commands_said [] more = omega arith
commands_said (request ∷ requests) more = omega (arith, commands_said requests more)

commands_all : (bytes : List ℕ) (requests : List Request) (more members : List Heard) → AreHeard bytes (map heard.Request requests ++ more) → AreHeard bytes members
    → commands_of requests ≤ commands_heard members
commands_all bytes requests more members all others =
    subst (λ l. commands_of requests ≤ commands_heard l) (all_same bytes (map heard.Request requests ++ more) members all others) (commands_said requests more)

alone_if : (requests : List Request) (closes : Bool) (m : ℕ) → (IsTrue closes → requests ≡ []) → (IsFalse closes → commands_of requests ≤ m) → commands_of requests ≤ m
alone_if requests true m none more = omega (arith, ap commands_of (none refl))
alone_if requests false m none more = more refl

commands_first : (bytes : List ℕ) (requests : List Request) (closing : List Response) (members : List Heard) → AreHeardFirst bytes requests closing → AreHeard bytes members
    → commands_of requests ≤ commands_heard members
commands_first bytes [] closing members first all = omega arith
commands_first bytes (request ∷ requests) closing [] (rest, is, alone, more) all =
    absurd (cc (one_first bytes rest [] (heard.Request request) heard.End is all).0)
commands_first bytes (request ∷ requests) closing (heard.End ∷ members) (rest, is, alone, more) all = absurd all
commands_first bytes (request ∷ requests) closing (heard.Refused refusal ∷ members) (rest, is, alone, more) (later, other, none) =
    absurd (cc (one_first bytes rest later (heard.Request request) (heard.Refused refusal) is other).0)
commands_first bytes (request ∷ requests) closing (heard.Request one ∷ members) (rest, is, alone, more) (later, other, ended, goes) =
    let (same, behind) = one_first bytes rest later (heard.Request request) (heard.Request one) is other in
    let it : request ≡ one = cc (same) in
    let others = alone_if requests request.closes (commands_heard members) (λ closes. (alone closes).0)
    (λ open_. commands_first rest requests closing members more
    (subst (λ b. AreHeard b members) (sym behind) (goes (subst (λ (r : Request). IsFalse r.closes) it open_)))) in
    omega (arith, others, ap (λ r. commands_in (asking_of r)) it)

broken_first : (bytes : List ℕ) (requests : List Request) (left : List ℕ) → BreaksOff bytes requests left → AreHeardFirst bytes requests []
broken_first bytes [] left breaks = tt
broken_first bytes (request ∷ requests) left (rest, is, open_, more) =
    (rest, is, (λ closes. not_both request.closes open_ closes), broken_first rest requests left more)

commands_until : (end : StreamEnd) (bytes : List ℕ) (over : Option (List ℕ)) (requests : List Request) (closing : List Response) (members : List Heard)
    → EndsAs end (Some bytes) over requests closing → AreHeard bytes members → commands_of requests ≤ commands_heard members
commands_until ends.End bytes over requests closing members (hears, said) all = commands_all bytes requests [] members hears all
commands_until (ends.Refused refusal) bytes over requests closing members (hears, said) all = commands_all bytes requests (heard.Refused refusal ∷ []) members hears all
commands_until ends.ReadFault bytes None requests closing members (hears, said) all = absurd hears
commands_until ends.ReadFault bytes (Some left) requests closing members (hears, said) all =
    commands_first bytes requests [] members (broken_first bytes requests left hears) all
commands_until ends.WriteFault bytes over requests closing members (inl (hears, said)) all = commands_first bytes requests closing members hears all
commands_until ends.WriteFault bytes over requests closing members (inr (refusal, hears, said)) all =
    commands_all bytes requests (heard.Refused refusal ∷ []) members hears all
commands_until ends.Memory bytes over requests closing members (hears, said) all = commands_first bytes requests closing members hears all

-- the whole connection

module _ (left over before now : Option (List ℕ)) (old new : List Event × ℕ) (served : Served) (s : IsServed AnswersSeen left over before now old new served) where
  pub seen_grows : IsPrefix old.0 new.0
  seen_grows = (seen_by_turns s.exchanges old new s.answered).grows

  pub seen_legal : is_legal (entries_of old.0) ≡ true → is_legal (entries_of new.0) ≡ true
  seen_legal legal = (seen_by_turns s.exchanges old new s.answered).legal legal

  pub well_answered : is_legal (entries_of old.0) ≡ true → IsWellAnswered old.0 new.0 left over before now served
  well_answered legal =
      let all = seen_by_turns s.exchanges old new s.answered in record {
        exchanges = s.exchanges;
        closing = s.closing;
        ends = s.ends;
        puts = s.puts;
        faulted = s.faulted;
        grows = all.grows;
        fit = all.fit;
        once = all_once (entries_of new.0) s.exchanges (all.legal legal) (all_hold (entries_of new.0) (length (entries_of old.0)) s.exchanges all.fit);
        marked = all.marked;
      }

  pub made_of : (bytes : List ℕ) (members : List Heard) → left ≡ Some bytes → AreHeard bytes members
      → IsMadeOf (commands_heard members) new.0 old.1 new.1
  made_of bytes members is heard_ =
      let all = seen_by_turns s.exchanges old new s.answered in
      let ends_ = subst (λ (l : Option (List ℕ)). EndsAs served.end l over (requests_of s.exchanges) s.closing) is s.ends in
      let fewer = commands_until served.end bytes over (requests_of s.exchanges) s.closing members ends_ heard_ in record {
        most = omega (arith, all.makes.most, fewer);
        unmarked = λ none. omega (arith, all.makes.unmarked none, fewer);
      }

-- it stays so, from what was seen earlier to what is seen later
pub stays_well : (front seen later more : List Event) (left over before now : Option (List ℕ)) (served : Served)
    → IsWellAnswered seen later left over before now served → IsPrefix front seen → IsPrefix later more → is_legal (entries_of more) ≡ true
    → IsWellAnswered front more left over before now served
stays_well front seen later more left over before now served w earlier goes_on legal =
    let fit = all_fit_more (entries_of later) (entries_of more) (length (entries_of seen)) (length (entries_of front)) w.exchanges (entries_begin later more goes_on)
    (prefix_length (entries_of front) (entries_of seen) (entries_begin front seen earlier)) w.fit in
    let grows = prefix_on front seen later earlier w.grows in record {
      exchanges = w.exchanges;
      closing = w.closing;
      ends = w.ends;
      puts = w.puts;
      faulted = w.faulted;
      grows = prefix_on front later more grows goes_on;
      fit = fit;
      once = all_once (entries_of more) w.exchanges legal (all_hold (entries_of more) (length (entries_of front)) w.exchanges fit);
      marked = subst (AreMarked (faulted_in w.exchanges)) (sym (beyond_both front later more grows goes_on))
          (marked_before (faulted_in w.exchanges) (drop (length front) later) (drop (length later) more)
          (subst (AreMarked (faulted_in w.exchanges)) (sym (beyond_both front seen later earlier w.grows))
          (marked_behind (faulted_in w.exchanges) (drop (length front) seen) (drop (length seen) later) w.marked)));
    }

-- a pass of the same turns, member by member
pub stays_on : {T I : Type 0} (turns : Turns T I) (a b c : Pass T I) → StaysPass turns a b → StaysPass turns b c → StaysPass turns a c
stays_on turns a b c p q =
    record { own = q.own; share = q.share ∙ p.share; began = (q.began.0 ∙ p.began.0, q.began.1 ∙ p.began.1) }
