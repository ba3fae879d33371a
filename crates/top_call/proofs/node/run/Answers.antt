use Rattle.std.proofs.Common.{None, Some, ap, false, inl, inr, map, refl, subst, sym, true, unwrap_or, ℕ, ◌≡◌, ◌∙◌}
use Rattle.links.specs.Views.{sink_view, source_view}
use Rattle.top_call.proofs.Asked.{apart_clash, making_apart, making_lawful, making_no_replay, making_no_show, not_apart, show_apart, show_lawful, show_no_replay}
use Rattle.top_call.proofs.Makings.{made_among, made_bad_word, made_later, making_of, took_nothing}
use Rattle.top_call.proofs.Showings.{showing_of, told_among, told_bad_word, told_later, told_took}
use Rattle.top_call.proofs.Statuses.{answer_of_input, shown_memory, sink_later, status_bad_line, status_bad_word, status_complete, status_history_full, status_out_of_memory, status_read_fault, status_reported, status_unlawful, status_write_fault, statuses}
use Rattle.top_call.specs.Endings.{HasAnswered}
use Rattle.top_call.specs.Makings.{IsMaking}
use Rattle.top_call.specs.Words.{is_show, made_count}
use Rattle.top_call.proofs.node.run.Goals as goal

clash : true ≡ false → ⊥
clash e = cc

none_some : (n : ℕ) → None ≡ Some n → ⊥
none_some n e = cc

same_count : (n m : ℕ) → Some n ≡ Some m → n ≡ m
same_count n m e = ap (λ v. unwrap_or v 0) e

pub returns-then-is_show : goal.returns-then-is_show
returns-then-is_show g c =
    let words = map (λ w. w.now) c.args.words.now in
    let b = source_view g.S.Source.left g.S.Source.read_faults g.S.Source.ends c.args.src.now in
    let n = source_view g.S.Source.left g.S.Source.read_faults g.S.Source.ends c.show_stream.new.src in
    let o = sink_view g.K.Sink.taken g.K.Sink.write_faults c.args.out.now in
    let x = sink_view g.K.Sink.taken g.K.Sink.write_faults c.show_stream.new.out in
    let r = c.show_stream.result in
    let told = c.show_stream.ensures in
    let show : is_show words ≡ true = sym c.is_show.ensures ∙ c.if-is_show.true in
    let apart = show_apart words show in
    record {
      ended = inr (inl (show, told));
      took = told_took b n o x r told;
      sink_later = told_later b n o x r told;
      reported = λ other. absurd (apart_clash words apart other);
      bad_word = λ two. absurd (told_bad_word b n o x r told two);
      bad_line = λ other. absurd (apart_clash words apart other);
      read_fault = λ other. absurd (apart_clash words apart other);
      write_fault = λ other. absurd (apart_clash words apart other);
      history_full = λ other. absurd (apart_clash words apart other);
      out_of_memory = λ other. absurd (apart_clash words apart other);
      show = λ it. showing_of b n o x r told;
      making = λ m made. absurd (making_no_show words m made show);
      statuses = told_among b n o x r told;
      unlawful = λ place bad. absurd (show_lawful words place show bad);
      complete = λ schedule replay. absurd (show_no_replay words show replay);
      told = λ schedule replay. absurd (show_no_replay words show replay);
    }

pub returns-in-Some : goal.returns-in-Some
returns-in-Some g c =
    let words = map (λ w. w.now) c.args.words.now in
    let b = source_view g.S.Source.left g.S.Source.read_faults g.S.Source.ends c.args.src.now in
    let o = sink_view g.K.Sink.taken g.K.Sink.write_faults c.args.out.now in
    let x = sink_view g.K.Sink.taken g.K.Sink.write_faults c.tell_made.new.out in
    let r = c.tell_made.result in
    let n = c.in-Some.messages in
    let told = c.tell_made.ensures in
    let made : made_count words ≡ Some n = sym c.in-Some.ensures in
    let apart = making_apart words n made in
    record {
      ended = inr (inr (n, made, refl, told));
      took = took_nothing b;
      sink_later = made_later n o x r told;
      reported = λ other. absurd (apart_clash words apart other);
      bad_word = λ two. absurd (made_bad_word n o x r told two);
      bad_line = λ other. absurd (apart_clash words apart other);
      read_fault = λ other. absurd (apart_clash words apart other);
      write_fault = λ other. absurd (apart_clash words apart other);
      history_full = λ other. absurd (apart_clash words apart other);
      out_of_memory = λ other. absurd (apart_clash words apart other);
      show = λ it. absurd (making_no_show words n made it);
      making = λ m is. subst (λ k. IsMaking k b b o x r) (same_count n m (sym made ∙ is)) (making_of n o x r b b refl told);
      statuses = made_among n o x r told;
      unlawful = λ place bad. absurd (making_lawful words n place made bad);
      complete = λ schedule replay. absurd (making_no_replay words n made replay);
      told = λ schedule replay. absurd (making_no_replay words n made replay);
    }

pub returns : goal.returns
returns g c =
    let words = map (λ w. w.now) c.args.words.now in
    let b = source_view g.S.Source.left g.S.Source.read_faults g.S.Source.ends c.args.src.now in
    let n = source_view g.S.Source.left g.S.Source.read_faults g.S.Source.ends c.judge-end.new.src in
    let o = sink_view g.K.Sink.taken g.K.Sink.write_faults c.args.out.now in
    let x = sink_view g.K.Sink.taken g.K.Sink.write_faults c.finish.new.out in
    let r = c.finish.result in
    let (written, which, text) = c.finish.ensures in
    let ended : HasAnswered words b n o x r = (written, shown_memory words b n _ written c.judge-end.ensures.shown which, text) in
    let other : is_show words ≡ false = sym c.is_show.ensures ∙ c.if-is_show.false in
    let unmade : made_count words ≡ None = sym c.in_default.ensures in
    record {
      ended = inl (not_apart words other unmade, ended);
      took = c.judge-end.ensures.took;
      sink_later = sink_later words b n o x r ended;
      reported = λ apart. status_reported words b n o x r ended;
      bad_word = status_bad_word words b n o x r ended;
      bad_line = λ apart. status_bad_line words b n o x r ended;
      read_fault = λ apart. status_read_fault words b n o x r ended;
      write_fault = λ apart. status_write_fault words b n o x r ended;
      history_full = λ apart. status_history_full words b n o x r ended;
      out_of_memory = λ apart. status_out_of_memory words b n o x r ended;
      show = λ it. absurd (clash (sym it ∙ other));
      making = λ m made. absurd (none_some m (sym unmade ∙ made));
      statuses = statuses words b n o x r ended;
      unlawful = status_unlawful words b n o x r ended;
      complete = λ schedule lawful told calm_source calm_sink. status_complete words b n o x r schedule told ended lawful calm_source calm_sink;
      told = λ schedule lawful told. answer_of_input words b n o x r schedule told ended;
    }
