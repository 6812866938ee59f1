use Rattle.std.proofs.Common.{true, false}
use Rattle.log_format.proofs.ReadHeaders.{zeros_behind, fault_0, fault_8, fault_24, fault_32, no_fault}
use Rattle.log_format.proofs.headers.fault_of.Goals as goal

pub returns-then-bytes-lt24-clause-fault : goal.returns-then-bytes-lt24-clause-fault
returns-then-bytes-lt24-clause-fault c = λ form digit. fault_8 form c.args.bytes.now c.has_magic.result (c.has_magic.ensures form digit) c.if-has_magic.true c.if-bytes-lt24.true

pub returns-then-bytes-lt-HEADER_BYTES-clause-fault : goal.returns-then-bytes-lt-HEADER_BYTES-clause-fault
returns-then-bytes-lt-HEADER_BYTES-clause-fault c = λ form digit.
    fault_32 form c.args.bytes.now c.has_magic.result (c.has_magic.ensures form digit) c.if-has_magic.true c.if-bytes-lt24.false (zeros_behind c.args.bytes.now c.has_zeros.result true c.if-bytes-lt24.false c.has_zeros.ensures c.if-has_zeros.true) c.if-bytes-lt-HEADER_BYTES.true

pub returns-then-has_zeros-clause-fault : goal.returns-then-has_zeros-clause-fault
returns-then-has_zeros-clause-fault c = λ form digit.
    no_fault form c.args.bytes.now c.has_magic.result (c.has_magic.ensures form digit) c.if-has_magic.true c.if-bytes-lt24.false (zeros_behind c.args.bytes.now c.has_zeros.result true c.if-bytes-lt24.false c.has_zeros.ensures c.if-has_zeros.true) c.if-bytes-lt-HEADER_BYTES.false

pub returns-then-has_magic-clause-fault : goal.returns-then-has_magic-clause-fault
returns-then-has_magic-clause-fault c = λ form digit.
    fault_24 form c.args.bytes.now c.has_magic.result (c.has_magic.ensures form digit) c.if-has_magic.true c.if-bytes-lt24.false (zeros_behind c.args.bytes.now c.has_zeros.result false c.if-bytes-lt24.false c.has_zeros.ensures c.if-has_zeros.false)

pub returns-clause-fault : goal.returns-clause-fault
returns-clause-fault c = λ form digit. fault_0 form c.args.bytes.now c.has_magic.result (c.has_magic.ensures form digit) c.if-has_magic.false
