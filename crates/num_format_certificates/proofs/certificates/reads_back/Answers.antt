use Rattle.num_format_certificates.proofs.certificates.reads_back.Goals as goal

pub returns-then-number_reads_back : goal.returns-then-number_reads_back
returns-then-number_reads_back g c =
    let utf8 = c.format_data.ensures.utf8 in
    let law = c.round_trips.ensures.two_values _ utf8.minus_sign utf8.separator in
    let lowest = c.number_reads_back-then-number_reads_back.ensures in
    (λ yes. law.1 (c.number_reads_back.ensures.0 c.if-number_reads_back.true, lowest.0 yes), λ all. lowest.1 (law.0 all).1)
