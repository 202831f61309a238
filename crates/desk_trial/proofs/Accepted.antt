-- What is accepted has the law number that it was accepted with.
use Rattle.std.proofs.Common.{◌≡◌, sym, subst, refl, eq-eqb, ℕ, true, Option, Some, None}
use Rattle.law_register.specs.declared.register.verdict.Reply.{Reply}
use Rattle.law_register.specs.declared.register.verdict.Verdict.{Verdict}
use Rattle.law_register.specs.declared.register.verdict.Verdict.TheVariants.{Accepted}
use Rattle.law_register.specs.Register.Verdicts.{is_accepted}

with_its_own : (law : Option ℕ) (reply : Reply) → is_accepted law (Accepted law reply) ≡ true
with_its_own None reply = refl
with_its_own (Some n) reply = eq-eqb n n refl

pub accepted_with : (said : Verdict) (law : Option ℕ) (reply : Reply) → said ≡ Accepted law reply → is_accepted law said ≡ true
accepted_with said law reply is = subst (λ (v : Verdict). is_accepted law v ≡ true) (sym is) (with_its_own law reply)
