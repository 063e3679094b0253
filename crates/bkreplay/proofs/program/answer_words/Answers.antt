-- The words that were read are those that are answered.
use Rattle.std.proofs.Common.{map, inl, inr, refl, sym, subst}
use Rattle.std.specs.IoError.{error_kind}
use Rattle.bkreplay.proofs.program.answer_words.Goals as goal

pub returns-in-Ok : goal.returns-in-Ok
returns-in-Ok g c = record {
  ran = inl (_, subst (λ words. g.W.Arguments.gives c.args.arguments (map g.W.Word.AsStr.text words)) (sym c.as_slice.ensures.value) c.in-Ok.ensures.given, c.run_words.ensures.ran);
}

pub returns-in-Err : goal.returns-in-Err
returns-in-Err g c = record {
  ran = inr (record {
    why = error_kind c.in-Err.error;
    is_so = c.in-Err.ensures.unread;
    silent = c.requires.silent;
    left = refl;
    unwritten = refl;
    said_so = c.refuse_words.ensures;
  });
}
