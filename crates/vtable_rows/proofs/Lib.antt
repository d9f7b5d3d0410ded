mod RowByRow
