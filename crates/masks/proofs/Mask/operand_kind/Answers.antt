-- `masks::Mask::operand_kind` meets its contract.
use Prim.Native.Nat.{ℕ}
use mathlib.Core.Path.{◌≡◌, sym, ap, ◌∙◌}
use borrow.Author.Rules.{rules}
use borrow.Author.Tests.{ne_eqb}
use Rattle.masks.specs.declared.Mask.{Mask}
use Rattle.masks.specs.Mask.{of, kind, operand_cases, operand_kind}
use Rattle.masks.proofs.Mask.operand_kind.Goals as goal

case : (m folded : Mask) {n : ℕ} → folded ≡ kind m → folded.bits ≡ n → operand_cases (of n) ≡ operand_kind m
unfolding operand_cases operand_kind
case m folded fold at = ap (λ (x : ℕ). operand_cases (of x)) (sym at) ∙ ap operand_cases fold

pub kind-folded-requires : goal.kind-folded-requires
unfolding operand_cases operand_kind
kind-folded-requires c = search rules

pub returns-in-1 : goal.returns-in-1
unfolding operand_cases operand_kind
returns-in-1 c = case _ _ c.kind-folded.ensures c.in-1.is

pub returns-in-2 : goal.returns-in-2
unfolding operand_cases operand_kind
returns-in-2 c = case _ _ c.kind-folded.ensures c.in-2.is

pub returns-in-4 : goal.returns-in-4
unfolding operand_cases operand_kind
returns-in-4 c = case _ _ c.kind-folded.ensures c.in-4.is

pub returns-in-8 : goal.returns-in-8
unfolding operand_cases operand_kind
returns-in-8 c = case _ _ c.kind-folded.ensures c.in-8.is

pub returns-in-16 : goal.returns-in-16
unfolding operand_cases operand_kind
returns-in-16 c = case _ _ c.kind-folded.ensures c.in-16.is

pub returns-in-32 : goal.returns-in-32
unfolding operand_cases operand_kind
returns-in-32 c = case _ _ c.kind-folded.ensures c.in-32.is

pub returns-in-64 : goal.returns-in-64
unfolding operand_cases operand_kind
returns-in-64 c = case _ _ c.kind-folded.ensures c.in-64.is

pub returns-in-128 : goal.returns-in-128
unfolding operand_cases operand_kind
returns-in-128 c = case _ _ c.kind-folded.ensures c.in-128.is

pub returns-in-256 : goal.returns-in-256
unfolding operand_cases operand_kind
returns-in-256 c = case _ _ c.kind-folded.ensures c.in-256.is

pub returns-in-512 : goal.returns-in-512
unfolding operand_cases operand_kind
returns-in-512 c = case _ _ c.kind-folded.ensures c.in-512.is

pub returns-in-1024 : goal.returns-in-1024
unfolding operand_cases operand_kind
returns-in-1024 c = case _ _ c.kind-folded.ensures c.in-1024.is

pub returns-in-2048 : goal.returns-in-2048
unfolding operand_cases operand_kind
returns-in-2048 c = case _ _ c.kind-folded.ensures c.in-2048.is

pub returns-in-8192 : goal.returns-in-8192
unfolding operand_cases operand_kind
returns-in-8192 c = case _ _ c.kind-folded.ensures c.in-8192.is

pub returns-in-16384 : goal.returns-in-16384
unfolding operand_cases operand_kind
returns-in-16384 c = case _ _ c.kind-folded.ensures c.in-16384.is

pub returns-in-32768 : goal.returns-in-32768
unfolding operand_cases operand_kind
returns-in-32768 c = case _ _ c.kind-folded.ensures c.in-32768.is

pub returns-in_default : goal.returns-in_default
unfolding operand_cases operand_kind
returns-in_default c = rw (← c.kind-folded.ensures, ne_eqb _ _ c.in_default.in_default-own.rest.0.0.0.0.0.0.0.0.0.0.0.0.0.0.1, ne_eqb _ _ c.in_default.in_default-own.rest.0.0.0.0.0.0.0.0.0.0.0.0.0.1, ne_eqb _ _ c.in_default.in_default-own.rest.0.0.0.0.0.0.0.0.0.0.0.0.1, ne_eqb _ _ c.in_default.in_default-own.rest.0.0.0.0.0.0.0.0.0.0.0.1, ne_eqb _ _ c.in_default.in_default-own.rest.0.0.0.0.0.0.0.0.0.0.1, ne_eqb _ _ c.in_default.in_default-own.rest.0.0.0.0.0.0.0.0.0.1, ne_eqb _ _ c.in_default.in_default-own.rest.0.0.0.0.0.0.0.0.1, ne_eqb _ _ c.in_default.in_default-own.rest.0.0.0.0.0.0.0.1, ne_eqb _ _ c.in_default.in_default-own.rest.0.0.0.0.0.0.1, ne_eqb _ _ c.in_default.in_default-own.rest.0.0.0.0.0.1, ne_eqb _ _ c.in_default.in_default-own.rest.0.0.0.0.1, ne_eqb _ _ c.in_default.in_default-own.rest.0.0.0.1, ne_eqb _ _ c.in_default.in_default-own.rest.0.0.1, ne_eqb _ _ c.in_default.in_default-own.rest.0.1, ne_eqb _ _ c.in_default.in_default-own.rest.1)
