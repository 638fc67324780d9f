-- `header_at` meets its contract: its tests are those of 7, 8 and 9, in this order.
use native.Mathlib.Omega.{arith}
use Rattle.syntax.proofs.HeaderWays.{header_cut, header-kinds, header-guard, header-length, header-found}
use Rattle.syntax.proofs.headers.header_at.Goals as goal

pub returns-then-remains-size : goal.returns-then-remains-size
returns-then-remains-size c = let a = c.args in
    header_cut a.program.now a.at a.sort c.header_bytes-size.ensures.0
    (omega (arith, c.saturating_sub-remains.ensures, c.if-remains-size.true))

pub returns-then-kinds_fault : goal.returns-then-kinds_fault
returns-then-kinds_fault c = let a = c.args in
    header-kinds a.program.now a.at a.sort c.header_bytes-size.ensures.0 (omega (arith, c.saturating_sub-remains.ensures, c.if-remains-size.false)) c.kinds_fault.ensures
    c.if-kinds_fault.true

pub returns-then-guard_fault : goal.returns-then-guard_fault
returns-then-guard_fault c = let a = c.args in
    header-guard a.program.now a.at a.sort c.header_bytes-size.ensures.0 (omega (arith, c.saturating_sub-remains.ensures, c.if-remains-size.false))
    c.kinds_fault.ensures c.if-kinds_fault.false
    c.guard_byte-guard.ensures c.guard_fault.ensures c.if-guard_fault.true

pub returns-then-length_fault : goal.returns-then-length_fault
returns-then-length_fault c = let a = c.args in
    header-length a.program.now a.at a.sort c.header_bytes-size.ensures.0 (omega (arith, c.saturating_sub-remains.ensures, c.if-remains-size.false))
    c.kinds_fault.ensures c.if-kinds_fault.false
    c.guard_byte-guard.ensures c.guard_fault.ensures c.if-guard_fault.false
    c.from16-length.ensures
    (rw c.saturating_sub-remains.ensures at c.length_fault.ensures) c.if-length_fault.true

pub returns : goal.returns
returns c = let a = c.args in
    header-found a.program.now a.at a.sort c.header_bytes-size.ensures.0 (omega (arith, c.saturating_sub-remains.ensures, c.if-remains-size.false))
    c.kinds_fault.ensures c.if-kinds_fault.false
    c.guard_byte-guard.ensures c.guard_fault.ensures c.if-guard_fault.false
    c.from16-length.ensures
    (rw c.saturating_sub-remains.ensures at c.length_fault.ensures) c.if-length_fault.false
