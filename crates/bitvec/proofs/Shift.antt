-- Shift right arithmetic and signed less as the builder's lines have them, and sign extension by shifts. Assumes nothing.
use mathlib.Core.Path.{◌≡◌, ◌∙◌}
use Prim.Native.Nat.{ℕ, zero, ◌+◌, ◌-◌, ◌*◌, ◌/◌, ◌%◌, ◌^◌, ◌≤◌, ◌<◌}
use native.Mathlib.Nat.{mod-eq_of_lt, div-lt_iff_lt-mul, le-div_iff_mul-le, div-one, zero-add, sub-le, sub-add_cancel, mul-div-mul_right}
use native.Mathlib.Omega.{arith}
use lib.Pow.{pow_pos, pow_mono, field}
use Rattle.bitvec.specs.Smtlib.{bvadd, bvshl, bvlshr}
use Rattle.bitvec.specs.TwosComplement.{sext, sra, slt}
use Rattle.bitvec.proofs.Composed.{sra_lines, slt_lines}
use Rattle.bitvec.proofs.Base.{by_le, by_signs, mod_is, pow_sum, pow_half, shl_is, shl_fits, lshr_is, sub_ge, sub_lt, shr_below, shr-add, shr-pow, sext_pos, sext_neg, sra_pos, sra_neg, ult_yes, ult_no, ult_same, slt_pp, slt_pn, slt_np, slt_nn}

-- x + 2 ^ (w - 1) at width w turns the sign bit
pub bias_pos : {w x : ℕ} → zero < w → x < 2 ^ (w - 1) → bvadd w x (2 ^ (w - 1)) ≡ x + 2 ^ (w - 1)
unfolding bvadd
bias_pos h l = mod-eq_of_lt (omega (arith, pow_half h))

pub bias_neg : {w x : ℕ} → zero < w → x < 2 ^ w → 2 ^ (w - 1) ≤ x → bvadd w x (2 ^ (w - 1)) ≡ x - 2 ^ (w - 1)
unfolding bvadd
bias_neg h l g = mod_is 1 (omega (arith, pow_half h)) (omega (arith, pow_half h))

-- ---- shift right arithmetic, in lines
pub sra_lines_lem : (w x n : ℕ) → x < 2 ^ w → n < w → sra_lines w x n ≡ sra w x n
unfolding sra_lines
sra_lines_lem w x n hx hn = by_le (2 ^ (w - 1)) x bvneg pos
  where
    w0 : zero < w
    w0 = omega arith

    e : w - n - 1 + n ≡ w - 1
    e = omega arith

    half : 2 ^ (w - n) ≡ 2 * 2 ^ (w - n - 1)
    half = pow_half (omega arith)

    most : 2 ^ (w - n) ≤ 2 ^ w
    most = pow_mono (sub-le w n)

    pos : x < 2 ^ (w - 1) → sra_lines w x n ≡ sra w x n
    pos h =
        rw (bias_pos w0 h, lshr_is (x + 2 ^ (w - 1)) hn, lshr_is (2 ^ (w - 1)) hn, sra_pos, shr-add x (w - n - 1) n e, shr-pow (w - n - 1) n e)
        (sub_ge w (omega arith) (omega (arith, half, most, shr_below (w - n - 1) n e h)) ∙ omega arith)

    bvneg : 2 ^ (w - 1) ≤ x → sra_lines w x n ≡ sra w x n
    bvneg h =
        rw (bias_neg w0 hx h, lshr_is (x - 2 ^ (w - 1)) hn, lshr_is (2 ^ (w - 1)) hn, sra_neg, shr-pow (w - n - 1) n e)
        (sub_lt w (shr_below (w - n - 1) n e (omega (arith, pow_half w0))) (omega (arith, half, most))
        ∙ omega (arith, half, most, rw (sub-add_cancel h) at (shr-add (x - 2 ^ (w - 1)) (w - n - 1) n e)))

-- ---- signed less, in lines
pub slt_lines_lem : (w x y : ℕ) → zero < w → x < 2 ^ w → y < 2 ^ w → slt_lines w x y ≡ slt w x y
unfolding slt_lines
slt_lines_lem w x y h hx hy =
    by_signs w x y
    (λ nx ny. rw (bias_neg h hx nx, bias_neg h hy ny, slt_nn w nx ny) (ult_same (omega arith) (omega arith)))
    (λ nx py. rw (bias_neg h hx nx, bias_pos h py, slt_np w nx py) (ult_yes (omega (arith, pow_half h))))
    (λ px ny. rw (bias_pos h px, bias_neg h hy ny, slt_pn w px ny) (ult_no (omega (arith, pow_half h))))
    (λ px py. rw (bias_pos h px, bias_pos h py, slt_pp w px py) (ult_same (omega arith) (omega arith)))

-- ---- the k bits of c from bit e on, moved to the top by s and back by d

-- with zeros
pub shl-div : (k e s : ℕ) {d w : ℕ} (c : ℕ) → zero < k → e + s ≡ d → k + d ≡ w → bvshl w c s / 2 ^ d ≡ c / 2 ^ e % 2 ^ k
shl-div k e s {d} {w} c h f q =
    rw (shl_is (k + e) s {w = w} c (omega arith) (omega arith), pow_sum e s f, mul-div-mul_right (c % 2 ^ (k + e)) (2 ^ e), pow_pos s) (field c k e)

pub lshr-shl : (k e s : ℕ) {d w : ℕ} (c : ℕ) → zero < k → e + s ≡ d → k + d ≡ w → bvlshr w (bvshl w c s) d ≡ c / 2 ^ e % 2 ^ k
lshr-shl k e s {d} {w} c h f q = lshr_is (bvshl w c s) (omega arith) ∙ shl-div k e s c h f q

-- with their sign
pub sra-shl : (k e s : ℕ) {d w : ℕ} (c : ℕ) → zero < k → e + s ≡ d → k + d ≡ w → sra w (bvshl w c s) d ≡ sext k w (c / 2 ^ e)
sra-shl k e s {d} {w} c h f q =
    by_le (2 ^ (k - 1)) (c / 2 ^ e % 2 ^ k)
    (λ n. rw (sra_neg w (bvshl w c s) d (rw top ((le-div_iff_mul-le (pow_pos d)).0 (rw v n))), v, rest, sext_neg k w (c / 2 ^ e) n))
    (λ p. rw (sra_pos w (bvshl w c s) d (rw top ((div-lt_iff_lt-mul (pow_pos d)).0 (rw v p))), v, sext_pos k w (c / 2 ^ e) p))
  where
    v : bvshl w c s / 2 ^ d ≡ c / 2 ^ e % 2 ^ k
    v = shl-div k e s c h f q

    rest : w - d ≡ k
    rest = omega arith

    top : 2 ^ (w - 1) ≡ 2 ^ (k - 1) * 2 ^ d
    top = pow_sum (k - 1) d (omega arith)

-- the k low bits: `sra (shl x 32) 32` is `sext 32 64 x`
pub sra_shl_low : (k d : ℕ) {w : ℕ} (x : ℕ) → zero < k → k + d ≡ w → sra w (bvshl w x d) d ≡ sext k w x
sra_shl_low k d {w} x h q = rw div-one at (sra-shl k 0 d {d = d} {w = w} x h (zero-add d) q)

-- as the lines have it
pub sext_lines : (k d : ℕ) {w : ℕ} (x : ℕ) → zero < k → k + d ≡ w → sra_lines w (bvshl w x d) d ≡ sext k w x
sext_lines k d {w} x h q = sra_lines_lem w (bvshl w x d) d (shl_fits w x d) (omega arith) ∙ sra_shl_low k d x h q
