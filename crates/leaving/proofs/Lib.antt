mod Debt
