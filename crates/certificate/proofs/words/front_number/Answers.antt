use Rattle.std.proofs.Common.{◌≡◌, ◌-◌, length, take, drop, arith}
use Rattle.std.proofs.lemmas.List.{take_rest}
use Rattle.certificate.proofs.WordLaws.{front-number, number-front}
use Rattle.certificate.proofs.words.front_number.Goals as goal

pub returns-in-None : goal.returns-in-None
returns-in-None c = λ n rest h.
    c.in-None.ensures n (front-number c.args.least c.args.most c.args.text.now rest n c.word_len-len.result (omega (arith, c.ranges.most.fits)) h
    c.word_len-len.ensures.within c.word_len-len.ensures.before c.word_len-len.ensures.at)

pub returns-in-Some : goal.returns-in-Some
returns-in-Some c =
    let all : take (length c.args.text.now - c.word_len-len.result) (drop c.word_len-len.result c.args.text.now) ≡ drop c.word_len-len.result c.args.text.now =
    take_rest c.args.text.now c.word_len-len.result in
    rw all (number-front c.args.least c.args.most c.args.text.now c.in-Some.value c.word_len-len.result c.in-Some.ensures c.word_len-len.ensures.at)
