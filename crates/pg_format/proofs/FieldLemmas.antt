-- Fields of a body that stand at an offset.
use Rattle.std.specs.Prelude.{◌≡◌, ℕ, ◌+◌, List, ◌++◌, length, drop}
use Rattle.std.proofs.Common.{refl, sym, ap, ◌∙◌, arith, length-take, length-drop}
use Rattle.std.proofs.lemmas.List.{take-append-drop, drop-drop}
use Rattle.pg_base.specs.Reading.{IsPartAt, Number}
use Rattle.pg_format.specs.Format.Parts.{bytes_of}
use Rattle.pg_format.specs.Format.Places.{IsReadAt}
use Rattle.pg_format.specs.Logical.{sized}

-- so many bytes stand at an offset
pub bytes_stand : (body value : List ℕ) (at n : ℕ) → IsPartAt body at n value → IsReadAt (bytes_of n) body at value (at + n)
bytes_stand body value at n p =
    let after = drop at body in
    let size : length value ≡ n = ap length p.1 ∙ omega (arith, length-take n after, length-drop at body, p.0) in
    let split : after ≡ value ++ drop (at + n) body = sym (take-append-drop n after) ∙ ap (λ (l : List ℕ). l ++ drop n after) (sym p.1) ∙ ap (λ (l : List ℕ). value ++ l) (drop-drop n at body) in
    record { within = p.0; reads = (size, split) }

pub sized_stands : (body value : List ℕ) (at n : ℕ) → Number 4 (drop at body) n (drop (at + 4) body) → IsPartAt body (at + 4) n value → IsReadAt sized body at value (at + 4 + n)
sized_stands body value at n counted p =
    let stands = bytes_stand body value (at + 4) n p in
    record { within = stands.within; reads = ((n, value), record { mid = drop (at + 4) body; first = counted; second = stands.reads }, refl) }
