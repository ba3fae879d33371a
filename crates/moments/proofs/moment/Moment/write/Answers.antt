use Rattle.std.proofs.Common.{◌≡◌, ap, sym, ◌∙◌, to_z-of_z, FitsSigned, w64, rules, true, subst, Some}
use Rattle.std.specs.Prelude.{IsUtf8}
use Rattle.std.proofs.lemmas.Result.{IfOk-weaker}
use Rattle.moments.specs.CivilTimes.{civil_micros, is_within_years}
use Rattle.moments.specs.MomentTexts.{moment_of}
use Rattle.moments.proofs.CivilBack.{real_is}
use Rattle.moments.proofs.TextsBack.{text_back, text_utf8}
use Rattle.moments.proofs.moment.Moment.write.Goals as goal

pub returns-clause-back : goal.returns-clause-back
returns-clause-back c =
    let fits : FitsSigned w64 c.args.self.0 = search rules in
    let shown = c.civil_at.result in
    let same : civil_micros shown ≡ c.args.self.0 = c.civil_at.ensures.back ∙ to_z-of_z fits in
    let within : is_within_years (civil_micros shown) ≡ true = ap is_within_years same ∙ c.requires in
    IfOk-weaker c.civil_text.result _ _ (λ b e. ap moment_of e ∙ text_back shown (real_is shown c.civil_at.ensures.civil) c.civil_at.ensures.civil within ∙ ap Some same) c.civil_text.ensures

pub returns-clause-utf8 : goal.returns-clause-utf8
returns-clause-utf8 c = IfOk-weaker c.civil_text.result _ _ (λ b e. subst IsUtf8 (sym e) (text_utf8 c.civil_at.result)) c.civil_text.ensures
