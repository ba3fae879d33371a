use Rattle.std.proofs.Common.{◌≡◌, true, sym, ap, ◌∙◌}
use Rattle.numerals.specs.Integers.{natural_of}
use Rattle.store_model.specs.Words.{brpop_until}
use Rattle.store_model.proofs.Ends.{brpop_split}
use Rattle.store_words.proofs.words.brpop_of.Goals as goal

pub returns-in_default-natural : goal.returns-in_default-natural
returns-in_default-natural c =
    let split = brpop_split c.args.args.now c.pop_back.new.self c.in-Some.time (sym c.in_ok-keys.ensures ∙ c.in-Some.ensures.some) (λ e. let yes : c.is_empty.result ≡ true = c.is_empty.ensures.1 e in let no = c.if-is_empty.false in cc) in
    c.faulty-in_default-natural.ensures ∙ ap (brpop_until c.pop_back.new.self) (sym c.in_default-natural.is ∙ c.natural.ensures ∙ ap natural_of c.as_slice.ensures) ∙ split

pub returns : goal.returns
returns c =
    let split = brpop_split c.args.args.now c.pop_back.new.self c.in-Some.time (sym c.in_ok-keys.ensures ∙ c.in-Some.ensures.some) (λ e. let yes : c.is_empty.result ≡ true = c.is_empty.ensures.1 e in let no = c.if-is_empty.false in cc) in
    ap (brpop_until c.pop_back.new.self) (sym c.in-Some-natural.is ∙ c.natural.ensures ∙ ap natural_of c.as_slice.ensures) ∙ split
