use Rattle.std.proofs.Common.{◌∙◌, sym, arith, refl}
use Rattle.pk_asm.proofs.DigitLemmas.{decoding_none, decoding_more, decoding_stop, decoding_read, decoding_value}
use Rattle.pk_asm.proofs.words.decode.Goals as goal

pub loop-i-init : goal.loop-i-init
loop-i-init c = decoding_none c.args.word.now c.args.value.now.room c.args.value.now c.requires.empty refl

pub returns-in-None-clause-read : goal.returns-in-None-clause-read
returns-in-None-clause-read c =
    decoding_stop c.args.word.now c.loop-i.i c.args.value.now.room c.loop-i.value c.requires.even (omega arith) (sym c.pair.ensures ∙ c.in-None.is) c.loop-i.invariant

pub loop-i-preserved : goal.loop-i-preserved
loop-i-preserved c =
    decoding_more c.args.word.now c.loop-i.i c.args.value.now.room c.loop-i.value c.push.new.self c.in-Some.byte (omega arith) (sym c.pair.ensures ∙ c.in-Some.is) c.push.ensures c.loop-i.invariant

pub returns-clause-read : goal.returns-clause-read
returns-clause-read c = decoding_read c.args.word.now c.loop-i.i c.args.value.now.room c.loop-i.value c.requires.even (omega arith) c.loop-i.invariant

pub returns-clause-value : goal.returns-clause-value
returns-clause-value c _ = decoding_value c.args.word.now c.loop-i.i c.args.value.now c.loop-i.value c.requires.even (omega arith) c.loop-i.invariant
