use Rattle.std.proofs.Common.{◌≡◌, ℕ, ◌+◌, ◌-◌, List, ◌++◌, length, take, drop, ap, arith, append_assoc, length-append, None, inl, inr, ◌∙◌, vec_len}
use Rattle.std.proofs.lemmas.List.{take_at, drop_at}
use Rattle.std.proofs.lemmas.Result.{IfOk-weaker, IfErr-weaker}
use Rattle.pg_base.specs.Numbers.{be32}
use Rattle.pg_base.specs.BufMut.{four_zeros, prefixed}
use Rattle.pg_base.specs.declared.error.Error.TheVariants.{Protocol}
use Rattle.pg_base.specs.declared.error.ProtocolFault.TheVariants.{MessageTooLong}
use Rattle.pg_base.proofs.io.buf_mut.VecU8PgBufMutExt.put_length_prefixed.Given.{Over}
use Rattle.pg_base.proofs.io.buf_mut.VecU8PgBufMutExt.put_length_prefixed.Goals.{After-finish}
use Rattle.pg_base.proofs.io.buf_mut.VecU8PgBufMutExt.put_length_prefixed.Goals as goal

-- A length is set before what was written after four zeros.

-- a buffer holds its old bytes, four zeros, and what was added
record Holds (old added whole : List ℕ) (offset len : ℕ) : Type 0 where
  pub parts : whole ≡ (old ++ four_zeros) ++ added
  pub starts : length old ≡ offset
  pub ends : length whole ≡ len

len_is : (old added whole : List ℕ) (offset len : ℕ) → Holds old added whole offset len → len ≡ offset + (length added + 4)
len_is old added whole offset len h =
    omega (arith, ap length h.parts, length-append (old ++ four_zeros) added, length-append old four_zeros, h.starts, h.ends)

take_old : (old added whole : List ℕ) (offset len : ℕ) → Holds old added whole offset len → take offset whole ≡ old
take_old old added whole offset len h = rw (h.parts, append_assoc) (take_at old (four_zeros ++ added) offset h.starts)

drop_both : (old added whole : List ℕ) (offset len : ℕ) → Holds old added whole offset len → drop (offset + 4) whole ≡ added
drop_both old added whole offset len h =
    rw h.parts (drop_at (old ++ four_zeros) added (offset + 4) (omega (arith, length-append old four_zeros, h.starts)))

is_prefixed : (old added whole : List ℕ) (offset len : ℕ) → Holds old added whole offset len
    → take offset whole ++ be32 (len - offset) ++ drop (offset + 4) whole ≡ old ++ prefixed added
is_prefixed old added whole offset len h =
    let e = len_is old added whole offset len h in
    let n : len - offset ≡ length added + 4 = omega arith in
    rw (take_old old added whole offset len h, drop_both old added whole offset len h, n) (append_assoc old (be32 (length added + 4)) added)

pub finish-requires : goal.finish-requires
finish-requires g c =
    let a = c.requires.appends c.put_zeros.new.buf c.call-written.new.buf c.call-written.result c.in_ok-put_zeros.ensures.ok c.call-written.ensures in
    omega (arith, ap length a.1, length-append (c.args.self.now.items ++ four_zeros) a.0, length-append c.args.self.now.items four_zeros, c.len-offset.ensures, c.args.self.now.ok.0, c.call-written.new.buf.ok.0)

-- what the closure added, and where it stands
stands : (g : Over) (c : After-finish g) → Holds c.args.self.now.items (c.requires.appends c.put_zeros.new.buf c.call-written.new.buf c.call-written.result c.in_ok-put_zeros.ensures.ok c.call-written.ensures).0 c.call-written.new.buf.items c.len-offset.result (vec_len c.call-written.new.buf)
stands g c =
    let a = c.requires.appends c.put_zeros.new.buf c.call-written.new.buf c.call-written.result c.in_ok-put_zeros.ensures.ok c.call-written.ensures in
    record {
      parts = a.1;
      starts = omega (arith, c.len-offset.ensures, c.args.self.now.ok.0);
      ends = omega (arith, c.call-written.new.buf.ok.0);
    }

pub returns-clause-ok : goal.returns-clause-ok
returns-clause-ok g c =
    let a = c.requires.appends c.put_zeros.new.buf c.call-written.new.buf c.call-written.result c.in_ok-put_zeros.ensures.ok c.call-written.ensures in
    let h = stands g c in
    IfOk-weaker c.finish.result _ _ (λ e k. (
      a.0,
      record {
        wrote = record {
          before = c.put_zeros.new.buf;
          shows = c.in_ok-put_zeros.ensures.ok;
          after = c.call-written.new.buf;
          met = rw k.0 at c.call-written.ensures;
          adds = a.1;
        };
        fits = omega (arith, len_is _ _ _ _ _ h, k.1.0);
      },
      k.1.1 ∙ is_prefixed _ _ _ _ _ h,
    )) c.finish.ensures.ok

pub returns-clause-err : goal.returns-clause-err
returns-clause-err g c =
    let h = stands g c in
    IfErr-weaker c.finish.result _ _ (λ e k. k ∙ take_old _ _ _ _ _ h) c.finish.ensures.err

pub returns-clause-why : goal.returns-clause-why
returns-clause-why g c =
    let a = c.requires.appends c.put_zeros.new.buf c.call-written.new.buf c.call-written.result c.in_ok-put_zeros.ensures.ok c.call-written.ensures in
    let h = stands g c in
    let e = len_is _ _ _ _ _ h in
    IfErr-weaker c.finish.result _ _ (λ error k. elim k [
      | inl own ↦ inr (inl (
        a.0,
        record {
          before = c.put_zeros.new.buf;
          shows = c.in_ok-put_zeros.ensures.ok;
          after = c.call-written.new.buf;
          met = rw own at c.call-written.ensures;
          adds = a.1;
        },
      ))
      | inr long ↦ inr (inr (record {
        added = a.0;
        wrote = record {
          before = c.put_zeros.new.buf;
          shows = c.in_ok-put_zeros.ensures.ok;
          after = c.call-written.new.buf;
          met = rw long.0 at c.call-written.ensures;
          adds = a.1;
        };
        passes = omega (arith, e, long.1);
        is = long.2 ∙ ap (λ (n : ℕ). Protocol None (MessageTooLong n)) (omega (arith, e));
      }))
    ]) c.finish.ensures.why

pub returns-clause-capacity : goal.returns-clause-capacity
returns-clause-capacity g c = λ keeps.
    omega (arith, keeps c.put_zeros.new.buf c.call-written.new.buf c.call-written.result c.in_ok-put_zeros.ensures.ok c.call-written.ensures, c.in_ok-put_zeros.ensures.capacity, c.finish.ensures.capacity)
