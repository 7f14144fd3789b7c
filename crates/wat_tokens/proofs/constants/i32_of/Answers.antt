use Rattle.wat_tokens.proofs.Signed.{constant_found, constant_only, constant_none, no_constant}
use Rattle.wat_tokens.proofs.constants.i32_of.Goals as goal

pub returns-in-Some : goal.returns-in-Some
returns-in-Some c =
    let word = c.args.word.now in
    let sign = c.sign_of-sign.result in
    let of_sign = c.sign_of-sign.ensures in
    let made = c.constant_32.ensures in
    record {
      found = constant_found 32 word sign c.in-Some.natural of_sign c.in-Some.ensures.only c.constant_32.result c.in-Some.ensures.found made.found;
      only = constant_only 32 word sign c.in-Some.natural of_sign c.in-Some.ensures.only c.constant_32.result made.found;
      none = constant_none 32 word sign c.in-Some.natural of_sign c.in-Some.ensures.only c.constant_32.result made.none;
    }

pub returns-in-None-clause-none : goal.returns-in-None-clause-none
returns-in-None-clause-none c = λ other s. no_constant 32 c.args.word.now c.sign_of-sign.result other c.sign_of-sign.ensures c.in-None.ensures.none s
